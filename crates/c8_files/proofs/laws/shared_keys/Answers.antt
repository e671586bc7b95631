-- Two sets meet exactly if they share a key, and each two of the four players are compared.
use Rattle.std.proofs.Common.{refl}
use Rattle.c8_files.specs.Asked.{masks_of}
use Rattle.c8_files.proofs.KeyLemmas.{shared_found, shared_told}
use Rattle.c8_files.proofs.laws.shared_keys.Goals as goal

pub returns : goal.returns
returns c = λ settings. (shared_found (masks_of settings), shared_told (masks_of settings) refl)
