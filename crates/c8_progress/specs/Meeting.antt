-- How two players of a match open their links.
use Rattle.std.specs.Prelude.{◌≡◌, ◌≢◌, ◌≤◌, Bool, true, false, Option, Some, None}
use Rattle.c8_wire.specs.declared.kinds.DatagramKind.TheVariants as kinds
use Rattle.c8_wire.specs.Packet.{HeadValue}
use Rattle.c8_hand.specs.declared.error.HandError.{HandError}
use Rattle.c8_hand.specs.Links.{LinksValue, link_to, refusal, heard, head_to}

-- The links of two players of one match. Neither knows an epoch of the other that is still to come.
pub record AreMatched (l m : LinksValue) : Type 0 where
  pub session : l.session ≡ m.session
  pub players : l.players ≡ m.players
  pub at_most_four : l.players ≤ 4
  pub apart : l.me ≢ m.me
  pub one_from : 1 ≤ l.me
  pub one_to : l.me ≤ l.players
  pub other_from : 1 ≤ m.me
  pub other_to : m.me ≤ l.players
  pub one_epoch : 1 ≤ l.epoch
  pub other_epoch : 1 ≤ m.epoch
  pub known_of_other : (link_to l m.me).known ≤ m.epoch
  pub known_of_one : (link_to m l.me).known ≤ l.epoch

-- the link is open, and names the other's present epoch
pub record IsFresh (l m : LinksValue) : Type 0 where
  pub known : (link_to l m.me).known ≡ m.epoch
  pub is_open : (link_to l m.me).is_open ≡ true

-- what a datagram makes of links: a refused one changes nothing
abbrev pub taken : Option HandError → LinksValue → LinksValue → LinksValue
taken None old new = new
taken (Some why) old new = old

abbrev pub takes : LinksValue → HeadValue → LinksValue
takes l head = taken (refusal l head) l (heard l head)

-- both links
pub record Two : Type 0 where
  pub one : LinksValue
  pub other : LinksValue

-- both links are open and fresh
pub record Meets (t : Two) : Type 0 where
  pub one : IsFresh t.one t.other
  pub other : IsFresh t.other t.one

-- a HELLO from the first to the second, a WELCOME back, and a WELCOME
abbrev pub hailed : LinksValue → LinksValue → LinksValue
hailed l m = takes m (head_to l m.me kinds.Hello)

abbrev pub welcomed : LinksValue → LinksValue → LinksValue
welcomed l m = takes l (head_to m l.me kinds.Welcome)

abbrev pub met : LinksValue → LinksValue → Two
met l m = record { one = welcomed l (hailed l m); other = welcomed (hailed l m) (welcomed l (hailed l m)) }

-- The same as turns make it. The second player says HELLO only if its link is not open then, and is welcomed for it.
abbrev pub answered : Bool → LinksValue → LinksValue → LinksValue
answered true m l = m
answered false m l = welcomed m l

abbrev pub met_in_turns : LinksValue → LinksValue → Two
met_in_turns l m = record {
  one = welcomed l (hailed l m);
  other = answered (link_to (hailed l m) (welcomed l (hailed l m)).me).is_open (hailed l m) (welcomed l (hailed l m));
}
