-- Printed texts, one after another.
use Rattle.c8_spectator.specs.declared.error.NotTaken.{NotTaken}
use Rattle.std.proofs.Common.{◌≡◌, codes, OnOk, Result, Ok, Err, ℕ, ◌+◌, ◌<◌, ◌≤◌, min, List, [], ◌∷◌, ◌++◌, length, take, drop, get_or}
use Rattle.std.proofs.Common.{Option, Some, None, refl, sym, ap, subst, ◌∙◌}
use Rattle.std.proofs.lemmas.List.{append-nil, append_assoc, drop_all, flat_map_more, take_more}
use Rattle.std.specs.Fmt.{decimal}
use Rattle.std.specs.List.{flat_map}
use Rattle.std.specs.Io.KnownBytes.{Appends}
use Rattle.c8_world.specs.declared.answer.Answer.{Answer}
use Rattle.c8_world.specs.declared.ends.Tally.{Tally}
use Rattle.c8_script.specs.Printed.{AreLines, IsLine, line, count_text, answer_text, not_taken_text, tallies_text, tally_text}

-- ---- known bytes

pub appends_none : (u : Option (List ℕ)) → Appends u u []
appends_none None = tt
appends_none (Some xs) = sym (append-nil xs)

pub appends_then : (u v w : Option (List ℕ)) (a b : List ℕ) → Appends u v a → Appends v w b → Appends u w (a ++ b)
appends_then None v w a b x y = tt
appends_then (Some xs) None w a b x y = absurd x
appends_then (Some xs) (Some ys) None a b x y = y
appends_then (Some xs) (Some ys) (Some zs) a b x y = y ∙ ap (λ (t : List ℕ). t ++ b) x ∙ append_assoc xs a b

-- ---- answers

-- A text was written. The lines of the remaining answers complete it to the lines of all answers.
pub record LinesSoFar (u v : Option (List ℕ)) (answers : List Answer) (i : ℕ) : Type 0 where
  pub text : List ℕ
  pub appended : Appends u v text
  pub goes_on : (rest : List ℕ) → AreLines (i + 1) (drop i answers) rest → AreLines 1 answers (text ++ rest)

pub lines_start : (u : Option (List ℕ)) (answers : List Answer) → LinesSoFar u u answers 0
lines_start u answers = record { text = []; appended = appends_none u; goes_on = λ rest lines. lines }

pub lines_next : (u v w : Option (List ℕ)) (answers : List Answer) (i : ℕ) (answer : Answer) (text : List ℕ)
    → drop i answers ≡ answer ∷ drop (i + 1) answers
    → LinesSoFar u v answers i → IsLine (i + 1) answer text → Appends v w text → LinesSoFar u w answers (i + 1)
lines_next u v w answers i answer text left before is appended = record {
  text = before.text ++ text;
  appended = appends_then u v w before.text text before.appended appended;
  goes_on = λ rest lines.
      subst (λ (t : List ℕ). AreLines 1 answers t) (sym (append_assoc before.text text rest))
      (before.goes_on (text ++ rest) (subst (λ (l : List Answer). AreLines (i + 1) l (text ++ rest)) (sym left) (text, rest, is, lines, refl)));
}

pub lines_all : (u v : Option (List ℕ)) (answers : List Answer) (i : ℕ) → length answers ≤ i → LinesSoFar u v answers i
    → (text : List ℕ) × AreLines 1 answers text × Appends u v text
lines_all u v answers i all before =
    let lines = before.goes_on [] (subst (λ (l : List Answer). AreLines (i + 1) l []) (sym (drop_all i answers all)) refl) in
    (before.text, subst (λ (t : List ℕ). AreLines 1 answers t) (append-nil before.text) lines, before.appended)

-- ---- ends

-- A text was written. The lines of the remaining players complete it to the lines of all players.
pub record TalliesSoFar (u v : Option (List ℕ)) (players : ℕ) (tallies : List Tally) (i : ℕ) : Type 0 where
  pub text : List ℕ
  pub appended : Appends u v text
  pub goes_on : text ++ tallies_text players (i + 1) (drop i tallies) ≡ tallies_text players 1 tallies

pub tallies_start : (u : Option (List ℕ)) (players : ℕ) (tallies : List Tally) → TalliesSoFar u u players tallies 0
tallies_start u players tallies = record { text = []; appended = appends_none u; goes_on = refl }

pub tallies_next : (u v w : Option (List ℕ)) (players : ℕ) (tallies : List Tally) (i : ℕ) (tally : Tally)
    → drop i tallies ≡ tally ∷ drop (i + 1) tallies
    → TalliesSoFar u v players tallies i → Appends v w (tally_text players (i + 1) tally) → TalliesSoFar u w players tallies (i + 1)
tallies_next u v w players tallies i tally left before appended =
    let text = tally_text players (i + 1) tally in
    record {
      text = before.text ++ text;
      appended = appends_then u v w before.text text before.appended appended;
      goes_on = append_assoc before.text text (tallies_text players (i + 1 + 1) (drop (i + 1) tallies))
          ∙ ap (λ (l : List Tally). before.text ++ tallies_text players (i + 1) l) (sym left) ∙ before.goes_on;
    }

pub tallies_all : (u v : Option (List ℕ)) (players : ℕ) (tallies : List Tally) (i : ℕ) → length tallies ≤ i
    → TalliesSoFar u v players tallies i → Appends u v (tallies_text players 1 tallies)
tallies_all u v players tallies i all before =
    let text : before.text ≡ tallies_text players 1 tallies =
    sym (append-nil before.text) ∙ ap (λ (l : List Tally). before.text ++ tallies_text players (i + 1) l) (sym (drop_all i tallies all))
    ∙ before.goes_on in
    subst (λ (t : List ℕ). Appends u v t) text before.appended

-- the counts so far, and one more
pub counts_next : (u v w : Option (List ℕ)) (counts : List ℕ) (i : ℕ) → i < length counts
    → Appends u v (flat_map count_text (take i counts)) → Appends v w (count_text (get_or counts i 0))
    → Appends u w (flat_map count_text (take (i + 1) counts))
counts_next u v w counts i lt before appended =
    let text : flat_map count_text (take i counts) ++ count_text (get_or counts i 0) ≡ flat_map count_text (take (i + 1) counts) =
    flat_map_more count_text [] (take i counts) (get_or counts i 0) ∙ ap (flat_map count_text) (sym (take_more counts i 0 lt)) in
    subst (λ (t : List ℕ). Appends u w t) text
    (appends_then u v w (flat_map count_text (take i counts)) (count_text (get_or counts i 0)) before appended)

-- ---- one answer

-- the answer has its own text, whatever the name
pub told_by : {T E : Type 0} → (u v : Option (List ℕ)) (answer : Answer) (name text : List ℕ) (result : Result T E)
    → answer_text name answer ≡ text → OnOk result (Appends u v text)
    → OnOk result ((name : List ℕ) × Appends u v (answer_text name answer))
told_by u v answer name text (Ok done) is appended = (name, subst (λ (t : List ℕ). Appends u v t) (sym is) appended)
told_by u v answer name text (Err error) is appended = appended

-- the same for what a watcher did not take
pub not_taken_by : {T E : Type 0} → (u v : Option (List ℕ)) (error : NotTaken) (name text : List ℕ) (result : Result T E)
    → not_taken_text name error ≡ text → OnOk result (Appends u v text)
    → OnOk result ((name : List ℕ) × Appends u v (not_taken_text name error))
not_taken_by u v error name text (Ok done) is appended = (name, subst (λ (t : List ℕ). Appends u v t) (sym is) appended)
not_taken_by u v error name text (Err failed) is appended = appended

-- with the number of its event in front
pub numbered : {T E : Type 0} → (u v w : Option (List ℕ)) (number : ℕ) (answer : Answer) (result : Result T E)
    → Appends u v (decimal number ++ codes " ")
    → OnOk result ((name : List ℕ) × Appends v w (answer_text name answer))
    → OnOk result ((text : List ℕ) × IsLine number answer text × Appends u w text)
numbered u v w number answer (Ok done) first rest = (
  decimal number ++ codes " " ++ answer_text rest.0 answer,
  (rest.0, refl),
  appends_then u v w (decimal number ++ codes " ") (answer_text rest.0 answer) first rest.1,
)
numbered u v w number answer (Err error) first rest = rest

-- ---- one player

-- what was written in front of the counts, and the counts
pub tally_told : {T E : Type 0} → (u v w : Option (List ℕ)) (players player : ℕ) (tally : Tally) (shown : ℕ) (result : Result T E)
    → shown ≡ min players 4
    → Appends u v (codes "player " ++ (decimal player ++
    (codes " now " ++ (decimal tally.now ++ (codes " confirmed " ++ (decimal tally.confirmed ++ codes " held"))))))
    → OnOk result (Appends v w (line (flat_map count_text (take shown tally.held) ∷ [])))
    → OnOk result (Appends u w (tally_text players player tally))
tally_told u v w players player tally shown (Ok done) is first rest =
    let held = line (flat_map count_text (take (min players 4) tally.held) ∷ []) in
    let counts : Appends v w held = subst (λ (k : ℕ). Appends v w (line (flat_map count_text (take k tally.held) ∷ []))) is rest in
    let front = codes "player " ++ (decimal player ++
    (codes " now " ++ (decimal tally.now ++ (codes " confirmed " ++ (decimal tally.confirmed ++ codes " held"))))) in
    let text : front ++ held ≡ tally_text players player tally = simp append_assoc in
    subst (λ (t : List ℕ). Appends u w t) text (appends_then u v w front held first counts)
tally_told u v w players player tally shown (Err error) is first rest = rest
