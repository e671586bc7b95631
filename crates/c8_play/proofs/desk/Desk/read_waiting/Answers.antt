-- The bytes of several reads follow one another as if they had come at once.
use Rattle.std.proofs.Common.{◌++◌, ℕ, List, take, ap, ◌∙◌}
use Rattle.c8_play.specs.Desk.{typing}
use Rattle.c8_play.proofs.DeskLemmas.{forgets_more}
use Rattle.c8_play.proofs.TypingLemmas.{come_joined}
use Rattle.c8_play.proofs.desk.Desk.read_waiting.Goals as goal

-- the bytes of this read come after those so far
pub loop-preserved : goal.loop-preserved
loop-preserved g c =
    let before = c.loop.invariant in
    let bytes : List ℕ = take c.in-Ok.size c.keys.new.bytes in
    record {
      bytes = before.bytes ++ bytes;
      came = come_joined before.bytes bytes (typing g.C.Console c.args.self.now) (typing g.C.Console c.loop.self)
          (typing g.C.Console c.take.new.self) before.came
          (record {
            typed = ap g.C.Console.typed c.take.ensures.console ∙ c.in-Ok.ensures.typed;
            read = c.take.ensures.read;
            hold = c.take.ensures.hold;
            press = c.take.ensures.press;
          });
      none = λ no. cc no;
      seen = forgets_more c.args.self.now c.loop.self c.take.new.self before.seen c.take.ensures.seen;
      drawn = ap g.C.Console.drawn c.take.ensures.console ∙ c.in-Ok.ensures.drawn ∙ before.drawn;
    }
