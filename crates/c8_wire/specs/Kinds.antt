-- The kinds of datagrams. A row says all of a kind but its name; a new kind adds a row.
use Rattle.std.specs.Prelude.{◌≡◌, ◌≤◌, ℕ, ◌+◌, ◌==◌, Bool, true, false, List, [], ◌∷◌, Option, Some, None, Result, MatchResult, find}
use Rattle.std.specs.Bool.{OnTrue}
use Rattle.c8_wire.specs.declared.error.WireError.{WireError}
use Rattle.c8_wire.specs.declared.error.WireError.TheVariants as errors
use Rattle.c8_wire.specs.declared.kinds.DatagramKind.{DatagramKind}
use Rattle.c8_wire.specs.declared.kinds.DatagramKind.TheVariants as kinds
use Rattle.c8_wire.specs.declared.kinds.KeyOf.{KeyOf}
use Rattle.c8_wire.specs.declared.kinds.KeyOf.TheVariants as keys
use Rattle.c8_wire.specs.declared.kinds.Parties.{Parties}
use Rattle.c8_wire.specs.declared.kinds.Parties.TheVariants as parties
use Rattle.c8_wire.specs.declared.kinds.Shape.{Shape}
use Rattle.c8_wire.specs.declared.kinds.Tail.{Tail}
use Rattle.c8_wire.specs.declared.kinds.Tail.TheVariants as tails
use Rattle.c8_wire.specs.declared.kinds.Wanted.{Wanted}
use Rattle.c8_wire.specs.declared.kinds.Wanted.TheVariants as wanted
use Rattle.c8_wire.specs.Sizes.{header_length}

-- byte 3 of its datagrams; the length in bytes of the body before its run or rows; what the body ends with; whether it begins
-- with a dropped player and a byte 0; who sends it to whom; the link that a player needs to take it; whose key seals it
pub record ShapeValue : Type 0 where
  pub code : ℕ
  pub fixed : ℕ
  pub tail : Tail
  pub names_leaver : Bool
  pub parties : Parties
  pub link : Wanted
  pub key : KeyOf

abbrev pub shape_of : DatagramKind → ShapeValue
shape_of kinds.Hello = record {
  code = 1;
  fixed = 0;
  tail = tails.Nothing;
  names_leaver = false;
  parties = parties.Players;
  link = wanted.Nothing;
  key = keys.Players;
}
shape_of kinds.Welcome = record {
  code = 2;
  fixed = 4;
  tail = tails.Nothing;
  names_leaver = false;
  parties = parties.Players;
  link = wanted.Known;
  key = keys.Players;
}
shape_of kinds.Data = record {
  code = 3;
  fixed = 22;
  tail = tails.Run;
  names_leaver = false;
  parties = parties.Players;
  link = wanted.Open;
  key = keys.Players;
}
shape_of kinds.Freeze = record {
  code = 4;
  fixed = 6;
  tail = tails.Nothing;
  names_leaver = true;
  parties = parties.Players;
  link = wanted.Open;
  key = keys.Players;
}
shape_of kinds.Frozen = record {
  code = 5;
  fixed = 12;
  tail = tails.Run;
  names_leaver = true;
  parties = parties.Players;
  link = wanted.Open;
  key = keys.Players;
}
shape_of kinds.Cut = record {
  code = 6;
  fixed = 12;
  tail = tails.Run;
  names_leaver = true;
  parties = parties.Players;
  link = wanted.Open;
  key = keys.Players;
}
shape_of kinds.Show = record {
  code = 7;
  fixed = 6;
  tail = tails.Rows;
  names_leaver = false;
  parties = parties.ToWatcher;
  link = wanted.Never;
  key = keys.Watchers;
}
shape_of kinds.Seen = record {
  code = 8;
  fixed = 4;
  tail = tails.Nothing;
  names_leaver = false;
  parties = parties.FromWatcher;
  link = wanted.Never;
  key = keys.Watchers;
}

-- what code holds of a kind
abbrev pub shape_value : Shape → ShapeValue
shape_value shape = record {
  code = shape.code;
  fixed = shape.fixed;
  tail = shape.tail;
  names_leaver = shape.names_leaver;
  parties = shape.parties;
  link = shape.link;
  key = shape.key;
}

abbrev pub all_kinds : List DatagramKind
all_kinds = kinds.Hello ∷ kinds.Welcome ∷ kinds.Data ∷ kinds.Freeze ∷ kinds.Frozen ∷ kinds.Cut ∷ kinds.Show ∷ kinds.Seen ∷ []

-- the kind with a code, if there is one
unfoldable pub kind_of_code : ℕ → Option DatagramKind
kind_of_code code = find (λ kind. (shape_of kind).code == code) all_kinds

-- the answer when a code is read as a kind
abbrev pub IsKindOf : ℕ → Result DatagramKind WireError → Type 0
IsKindOf code answer = MatchResult answer (λ kind. kind_of_code code ≡ Some kind) (λ error. (kind_of_code code ≡ None) × (error ≡ errors.Kind))

-- whether a body ends with a run, and whether with a run or with rows
abbrev pub is_run : Tail → Bool
is_run tails.Nothing = false
is_run tails.Run = true
is_run tails.Rows = false

abbrev pub has_tail : Tail → Bool
has_tail tails.Nothing = false
has_tail tails.Run = true
has_tail tails.Rows = true

-- the fixed bytes have room for the numbers that stand in them
pub record IsSized (shape : ShapeValue) : Type 0 where
  pub greatest : shape.fixed ≤ 22
  pub run : OnTrue (is_run shape.tail) (12 ≤ shape.fixed)
  pub tail : OnTrue (has_tail shape.tail) (6 ≤ shape.fixed)
  pub leaver : OnTrue shape.names_leaver (6 ≤ shape.fixed)

-- the place of the first input of a kind's run, or of its first row
abbrev pub run_place : DatagramKind → ℕ
run_place kind = header_length + (shape_of kind).fixed
