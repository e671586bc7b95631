-- A first record of another kind is no HEAD.
use Rattle.std.proofs.Common.{List}
use Rattle.c8_record.specs.Lent.{value_of}
use Rattle.c8_embed.proofs.HeadLemmas.{not_head, other_kind}
use Rattle.c8_embed.proofs.head.head_in.Goals as goal

pub returns-in_default-record : goal.returns-in_default-record
returns-in_default-record c =
    let lent = c.in-Some.record in
    let spells = rw (c.in-Some.is) at c.view.ensures.value in
    other_kind c.args.bytes.now c.kept_body.result.now (value_of lent) c.kept_body.ensures spells (not_head lent c.in_default-record.not-Head)
