-- What `show` answers to a word.
use Rattle.std.specs.Prelude.{◌≡◌, ℕ, List, Some, Result, Ok, Err, IsErr}
use Rattle.hex.specs.Hex.{decode_of}
use Rattle.c8_wire.specs.Packet.{Packet}
use Rattle.c8_wire.specs.Refusal.{refusal}
use Rattle.c8_wire.specs.Spelling.{Spells}
use Rattle.c8_texts.specs.declared.show_error.HexError.{HexError}
use Rattle.c8_texts.specs.declared.show_error.HexError.TheVariants.{Bad, Memory}
use Rattle.c8_texts.specs.declared.show_error.ShowError.{ShowError}
use Rattle.c8_texts.specs.declared.show_error.ShowError.TheVariants.{Hex, Wire}

-- the word is no hexadecimal text, or memory ran out
abbrev pub IsRefusalOfWord : List ℕ → HexError → Type 0
IsRefusalOfWord word Bad = IsErr (decode_of word)
IsRefusalOfWord word Memory = Unit {0}

-- the bytes spell no datagram, for this reason
abbrev pub IsRefusalOfBytes : List ℕ → ShowError → Type 0
IsRefusalOfBytes bytes (Wire error) = refusal bytes ≡ Some error
IsRefusalOfBytes bytes (Hex error) = ⊥

-- why the word, or the bytes that it spells, are refused
abbrev pub IsRefusalOfShow : List ℕ → ShowError → Type 0
IsRefusalOfShow word (Hex error) = IsRefusalOfWord word error
IsRefusalOfShow word (Wire error) =
    (bytes : List ℕ) × (decode_of word ≡ Ok bytes) × IsRefusalOfBytes bytes (Wire error)

abbrev pub IsOutcomeOfShow : List ℕ → Result Packet ShowError → Type 0
IsOutcomeOfShow word (Ok packet) =
    (bytes : List ℕ) × (decode_of word ≡ Ok bytes) × Spells bytes packet
IsOutcomeOfShow word (Err error) = IsRefusalOfShow word error
