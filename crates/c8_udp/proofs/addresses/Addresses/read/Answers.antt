-- If a watcher's word is refused, it is the first or the second of the two, and it names no address to reach.
use Rattle.std.proofs.Common.{inl, inr}
use Rattle.c8_udp.proofs.addresses.Addresses.read.Goals as goal

pub returns-in_err-watcher-clause-refused : goal.returns-in_err-watcher-clause-refused
returns-in_err-watcher-clause-refused c =
    let found = c.in_err-watcher.ensures in
    λ same. inr (c.in_ok-local.local, c.in_ok-local.ensures, (found.1.0, inr (0, found.1.1), found.1.2))

pub returns-in_err-watcher-2-clause-refused : goal.returns-in_err-watcher-2-clause-refused
returns-in_err-watcher-2-clause-refused c =
    let found = c.in_err-watcher-2.ensures in
    λ same. inr (c.in_ok-local.local, c.in_ok-local.ensures, (found.1.0, inr (1, found.1.1), found.1.2))
