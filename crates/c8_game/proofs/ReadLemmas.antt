-- What has been read of a text, line by line.
use Rattle.std.proofs.Common.{◌≡◌, ℕ, ◌⊎◌, ◌+◌, ◌≤◌, List, [], ◌∷◌, ◌++◌, length, Result, Ok, Err, refl, ap, sym, ◌∙◌, inl, inr}
use Rattle.std.proofs.Common.{append_assoc, length-append, arith}
use Rattle.std.specs.Prelude.{MatchResult, IfOk, IfErr}
use Rattle.std.specs.List.{AllZip}
use Rattle.std.specs.Str.Lines.{lines}
use Rattle.std.proofs.lemmas.List.{append-nil}
use Rattle.c8_game.specs.declared.error.GameError.{GameError}
use Rattle.c8_game.specs.declared.error.GameError.TheVariants.{Memory}
use Rattle.c8_game.specs.declared.text.draft.Draft.{Draft}
use Rattle.c8_game.specs.checked.Draft.{Holds, AddsLine, Finishes, IsDraftOf}
use Rattle.c8_game.specs.Faults.{AreFaultless, IsFirstFaultAt}
use Rattle.c8_game.specs.checked.FaultLaws.{faultless_none, faultless_more, first_placed}
use Rattle.c8_game.specs.checked.LineLaws.{few_lines}
use Rattle.c8_game.specs.GameText.{Item, Says, Spells}
use Rattle.c8_game.specs.GameFaults.{line_fault, IsRefused}
use Rattle.c8_game.specs.Rules.{Rules}
use Rattle.c8_game.proofs.DraftLemmas.{holds_once, gives_rules}

-- the draft holds the lines so far, and they have no fault; the next line's place is the number of lines read
pub record HasRead (draft : Draft) (text_lines left : List (List ℕ)) (place : ℕ) : Type 0 where
  pub seen : List (List ℕ)
  pub items : List Item
  pub says : AllZip Says seen items
  pub holds : Holds draft items
  pub cut : text_lines ≡ seen ++ left
  pub faultless : AreFaultless line_fault seen
  pub here : place ≡ length seen

pub says_more : (seen : List (List ℕ)) (items : List Item) (line : List ℕ) (item : Item) → AllZip Says seen items → Says line item
    → AllZip Says (seen ++ line ∷ []) (items ++ item ∷ [])
says_more [] [] line item all says = (says, tt)
says_more [] (first ∷ items) line item all says = absurd all
says_more (first ∷ seen) [] line item all says = absurd all
says_more (first ∷ seen) (one ∷ items) line item all says = (all.0, says_more seen items line item all.1 says)

pub nothing_read : (draft : Draft) (text_lines left : List (List ℕ)) → left ≡ text_lines → Holds draft [] → HasRead draft text_lines left 0
nothing_read draft text_lines left same holds =
    record { seen = []; items = []; says = tt; holds = holds; cut = sym same; faultless = faultless_none line_fault; here = refl }

-- the counter of lines does not overflow
pub has_room : (draft : Draft) (text : List ℕ) (rest left : List (List ℕ)) (line : List ℕ) (place : ℕ) → rest ≡ line ∷ left
    → HasRead draft (lines text) rest place → place ≤ length text
has_room draft text rest left line place step read =
    let cut : lines text ≡ read.seen ++ line ∷ left = read.cut ∙ ap (λ more. read.seen ++ more) step in
    omega (arith, read.here, few_lines text, ap length cut, length-append read.seen (line ∷ left))

pub one_more_read : (old new : Draft) (text_lines rest left : List (List ℕ)) (line : List ℕ) (place : ℕ)
    (result : Result (Unit {0}) GameError) → rest ≡ line ∷ left → result ≡ Ok tt → HasRead old text_lines rest place
    → AddsLine old new line result → HasRead new text_lines left (place + 1)
one_more_read old new text_lines rest left line place result step fine read adds =
    let taken : AddsLine old new line (Ok tt) = rw fine at adds in
    let added = taken read.seen read.items read.says read.holds in
    record {
      seen = read.seen ++ line ∷ [];
      items = read.items ++ added.1.0 ∷ [];
      says = says_more read.seen read.items line added.1.0 read.says added.1.1;
      holds = added.1.2;
      cut = read.cut ∙ ap (λ more. read.seen ++ more) step ∙ sym (append_assoc read.seen (line ∷ []) left);
      faultless = faultless_more line_fault read.seen line read.faultless added.0;
      here = omega (arith, read.here, length-append read.seen (line ∷ []));
    }

pub fault_read : (old new : Draft) (text : List ℕ) (rest left : List (List ℕ)) (line : List ℕ) (place : ℕ) (fault : GameError)
    (result : Result (Unit {0}) GameError) → rest ≡ line ∷ left → result ≡ Err fault
    → HasRead old (lines text) rest place → AddsLine old new line result → (fault ≡ Memory) ⊎ IsFirstFaultAt line_fault (lines text) fault place
fault_read old new text rest left line place fault result step bad read adds =
    let refused : AddsLine old new line (Err fault) = rw bad at adds in
    elim (refused read.seen read.items read.says read.holds) [
      | inl memory ↦ inl memory
      | inr found ↦ inr (rw (read.cut, step, read.here) (first_placed line_fault read.seen line left fault read.faultless found))
    ]

all_seen : (draft : Draft) (text_lines rest : List (List ℕ)) (place : ℕ) → rest ≡ [] → (read : HasRead draft text_lines rest place)
    → text_lines ≡ read.seen
all_seen draft text_lines rest place done read = read.cut ∙ ap (λ more. read.seen ++ more) done ∙ append-nil read.seen

pub all_read : (draft : Draft) (text : List ℕ) (rest : List (List ℕ)) (place : ℕ) → rest ≡ [] → HasRead draft (lines text) rest place
    → IsDraftOf text draft
all_read draft text rest place done read =
    let same = all_seen draft (lines text) rest place done read in
    record { faultless = rw same read.faultless; items = read.items; says = rw same read.says; holds = read.holds }

-- a text without a fault in its lines becomes a game, or is refused after its last line
pub finished : (draft : Draft) (text : List ℕ) (result : Result Rules GameError) → IsDraftOf text draft → Finishes draft result
    → MatchResult result (λ rules. Spells text rules) (λ fault. IsRefused text fault)
finished draft text (Ok rules) of ends =
    let end = ends of.items of.holds in
    (of.items, of.says, gives_rules of.items rules (holds_once draft of.items of.holds) end.0 end.1)
finished draft text (Err fault) of ends = inr (record { faultless = of.faultless; items = of.items; says = of.says; at_end = ends of.items of.holds })

-- a line at fault refuses the text
pub refused_at : (text : List ℕ) (fault : GameError) (place : ℕ) → (fault ≡ Memory) ⊎ IsFirstFaultAt line_fault (lines text) fault place
    → (fault ≡ Memory) ⊎ IsRefused text fault
refused_at text fault place (inl memory) = inl memory
refused_at text fault place (inr first) = inr (inl first.0)

pub spelled_if_ok : (text : List ℕ) (result : Result Rules GameError)
    → MatchResult result (λ rules. Spells text rules) (λ fault. IsRefused text fault) → IfOk result (λ rules. Spells text rules)
spelled_if_ok text (Ok rules) holds = holds
spelled_if_ok text (Err fault) holds = tt

pub refused_if_err : (text : List ℕ) (result : Result Rules GameError)
    → MatchResult result (λ rules. Spells text rules) (λ fault. IsRefused text fault)
    → IfErr result (λ fault. (fault ≡ Memory) ⊎ IsRefused text fault)
refused_if_err text (Ok rules) holds = tt
refused_if_err text (Err fault) holds = inr holds
