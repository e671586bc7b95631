-- A tagged packet ends with the tag of what is before it, so a shorter one or one with another end is none.
use Rattle.std.proofs.Common.{rules, ◌≡◌, ◌++◌, length, sym, ap, ◌∙◌, arith}
use Rattle.std.proofs.lemmas.List.{take-append-drop}
use Rattle.c8_transport.specs.Seal.{tag}
use Rattle.c8_transport.proofs.SealLemmas.{tagged_length, parts}
use Rattle.c8_transport.proofs.key.Key.untag.Goals as goal

pub returns-then-packet-lt-TAG_LENGTH : goal.returns-then-packet-lt-TAG_LENGTH
returns-then-packet-lt-TAG_LENGTH c bytes same =
    let size = ap length same in
    let whole = tagged_length c.args.self.now bytes in
    let short = c.if-packet-lt-TAG_LENGTH.true in
    omega (arith, size, whole, short)

pub returns-else-are_same : goal.returns-else-are_same
returns-else-are_same c bytes same =
    let packet = c.args.packet.now in
    let front = c.split_at.result.0.now in
    let back = c.split_at.result.1.now in
    let whole : front ++ back ≡ packet = search (rules, take-append-drop) in
    let last : length back ≡ 16 = ap length (sym c.copy_from_slice.ensures.after) ∙ c.copy_from_slice.ensures.len in
    let both = parts c.args.self.now front back bytes last (whole ∙ same) in
    c.if-are_same.ensures
    (c.tag.ensures ∙ ap (tag c.args.self.now) both.0 ∙ sym both.1 ∙ sym c.copy_from_slice.ensures.after)
