-- What a socket asks for and hears at a relay, one call after another.
use Rattle.std.proofs.Common.{rules, inl, inr, ◌≡◌, ◌⊎◌, ℕ, List, [], ◌∷◌, ◌++◌, ap, sym, subst, ◌∙◌, append_assoc, append-nil}
use Rattle.std.proofs.Common.{None, Some, refl, MatchResult}
use Rattle.std.specs.Prelude.{Option, Result, Ok, Err}
use Rattle.std.specs.List.{All}
use Rattle.std.proofs.lemmas.List.Elements.{All-append}
use Rattle.c8_relay.specs.Reading.{asked}
use Rattle.c8_relay.specs.declared.control.Join.{Join}
use Rattle.c8_udp.specs.Letters.{LetterValue, letter}
use Rattle.c8_udp.specs.Members.{IsOwnPlace, IsSameMember, IsSameRoute, IsAsking, IsAnswering, HasAsked, HasHeard}
use Rattle.c8_udp.specs.declared.membership.Membership.{Membership}

only : {X : Type 0} (P : X → Type 0) (x : X) → P x → All P (x ∷ [])
only P x p = search rules

none : {X : Type 0} (P : X → Type 0) → All P []
none P = search rules

pub same_member : (member : Membership) → IsSameMember member member
same_member member = record { relay = refl; own = refl; second = refl }

pub same_route : (member : Option Membership) → IsSameRoute member member
same_route None = search rules
same_route (Some member) = same_member member

pub same_then : (first second third : Option Membership) → IsSameRoute first second → IsSameRoute second third → IsSameRoute first third
same_then None None third one two = two
same_then None (Some b) third one two = absurd one
same_then (Some a) None third one two = absurd one
same_then (Some a) (Some b) None one two = absurd two
same_then (Some a) (Some b) (Some d) one two = record {
  relay = two.relay ∙ one.relay;
  own = two.own ∙ one.own;
  second = two.second ∙ one.second;
}

-- a JOIN for a seat stays one, whatever else the member notes
still : (first second : Option Membership) (x : LetterValue) → IsSameRoute first second → IsAsking second x → IsAsking first x
still None None x same asks = asks
still None (Some new) x same asks = absurd same
still (Some old) None x same asks = absurd same
still (Some old) (Some new) x same asks = (
  asks.0,
  elim asks.1 [
    | inl own ↦ inl (own ∙ same.own)
    | inr second ↦ inr (sym same.second ∙ second)
  ],
  asks.2 ∙ ap (λ relay. letter relay (asked asks.0)) same.relay,
)

pub nothing_asked : (member : Option Membership) (took : List LetterValue) → HasAsked member took took
nothing_asked member took = record { joins = []; are = none (IsAsking member); took_is = sym (append-nil took) }

pub asked_then : (first second : Option Membership) (took more now : List LetterValue) → IsSameRoute first second
    → HasAsked first took more → HasAsked second more now → HasAsked first took now
asked_then first second took more now same one two = record {
  joins = one.joins ++ two.joins;
  are = All-append (IsAsking first) one.joins two.joins one.are (λ k d h. still first second _ same (two.are k d h));
  took_is = two.took_is ∙ ap (λ list. list ++ two.joins) one.took_is ∙ append_assoc took one.joins two.joins;
}

-- the system took a JOIN for an own seat, or lost it
pub said : {E : Type 0} (member : Option Membership) (its : Membership) (join : Join) (result : Result ℕ E) (bytes : List ℕ)
    (took now : List LetterValue) → member ≡ Some its → IsOwnPlace its join.place → bytes ≡ asked join
    → MatchResult result (λ _. now ≡ took ++ letter its.relay bytes ∷ []) (λ _. now ≡ took) → HasAsked member took now
said member its join (Ok size) bytes took now is own spelled posted =
    subst (λ (it : Option Membership). HasAsked it took now) (sym is) (record {
      joins = letter its.relay bytes ∷ [];
      are = only (IsAsking (Some its)) _ (join, own, ap (λ spelt. letter its.relay spelt) spelled);
      took_is = posted;
    })
said member its join (Err error) bytes took now is own spelled posted =
    record { joins = []; are = none (IsAsking member); took_is = posted ∙ sym (append-nil took) }

pub nothing_heard : (gave : List LetterValue) → HasHeard gave gave
nothing_heard gave = record { answers = []; are = none IsAnswering; gave_is = sym (append-nil gave) }

pub heard_then : (gave more now : List LetterValue) (x : LetterValue) → HasHeard gave more → IsAnswering x → now ≡ more ++ x ∷ []
    → HasHeard gave now
heard_then gave more now x one answers is = record {
  answers = one.answers ++ x ∷ [];
  are = All-append IsAnswering one.answers (x ∷ []) one.are (only IsAnswering x answers);
  gave_is = is ∙ ap (λ list. list ++ x ∷ []) one.gave_is ∙ append_assoc gave one.answers (x ∷ []);
}
