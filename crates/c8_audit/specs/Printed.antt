-- The lines of the verdicts, as `audit` prints them.
use Rattle.std.specs.Prelude.{ℕ, ◌-◌, List, [], ◌∷◌, ◌++◌, codes, Option, Some, None}
use Rattle.std.specs.Borrow.{Bor}
use Rattle.std.specs.List.{slice_get}
use Rattle.std.specs.Fmt.{decimal}
use Rattle.std.specs.Io.KnownBytes.{Appends}
use Rattle.c8_game.specs.declared.row.Player.{Player}
use Rattle.c8_audit.specs.declared.fault.Answer.{Answer}
use Rattle.c8_audit.specs.declared.conclusion.Conclusion.{Conclusion}
use Rattle.c8_audit.specs.declared.conclusion.Conclusion.TheVariants as said
use Rattle.c8_audit.specs.declared.fault.Short.{Short as ShortJournal}
use Rattle.c8_audit.specs.declared.fault.Answer.TheVariants.{Yes, Short, No}
use Rattle.c8_audit.specs.declared.journal.Journal.{Journal}
use Rattle.c8_audit.specs.declared.verdict.Verdicts.{Verdicts}

-- these parts, one after another, and a line feed
abbrev pub line : List (List ℕ) → List ℕ
line [] = 10 ∷ []
line (part ∷ parts) = part ++ line parts

abbrev pub entered_text : Answer → List ℕ
entered_text Yes = codes "entered yes\n"
entered_text (Short short) = line (codes "entered short " ∷ decimal short.player.number ∷ codes " " ∷ decimal short.length ∷ [])
entered_text (No fault) = line (codes "entered no " ∷ decimal fault.one.number ∷ codes " " ∷ decimal fault.frame ∷ codes " " ∷ decimal
    fault.other.number ∷ [])

-- the record that ends the player's last checkpoint has this number
abbrev pub checks_text : Option Player → ℕ → List ℕ
checks_text (Some player) check = line (codes "checks no " ∷ decimal player.number ∷ codes " " ∷ decimal check ∷ [])
checks_text None check = codes "checks yes\n"

abbrev pub agree_text : Answer → ℕ → List ℕ
agree_text Yes count = line (codes "agree yes " ∷ decimal count ∷ [])
agree_text (Short short) count = line (codes "agree short " ∷ decimal short.player.number ∷ codes " " ∷ decimal short.length ∷ [])
agree_text (No fault) count = line (codes "agree no " ∷ decimal fault.frame ∷ codes " " ∷ decimal fault.one.number ∷ codes " " ∷ decimal
    fault.other.number ∷ [])

abbrev pub verdicts_text : Verdicts → ℕ → List ℕ
verdicts_text verdicts check = entered_text verdicts.entered ++ (checks_text verdicts.untrue check ++ agree_text verdicts.agree verdicts.count)

-- a player of the game whose journal is not given
abbrev pub unchecked_text : ℕ → List ℕ
unchecked_text player = line (codes "unchecked " ∷ decimal player ∷ [])

-- these parts, one after another
abbrev pub joined : List (List ℕ) → List ℕ
joined [] = []
joined (part ∷ parts) = part ++ joined parts

-- what is said in a sentence
abbrev pub words_of : Conclusion → List ℕ
words_of said.Agree = codes "the journals agree"
words_of (said.Accused fault) = joined (codes "player " ∷ decimal fault.one.number ∷ codes "'s own journal has another input in frame "
    ∷ decimal fault.frame ∷ codes " than player " ∷ decimal fault.other.number ∷ codes "'s" ∷ [])
words_of (said.Untrue player) = joined (codes "player " ∷ decimal player.number ∷ codes "'s last checkpoint is not that of its inputs" ∷ [])
words_of (said.Opposed fault) = joined (codes "players " ∷ decimal fault.one.number ∷ codes " and " ∷ decimal fault.other.number
    ∷ codes " have different inputs in frame " ∷ decimal fault.frame ∷ [])
words_of (said.Short short) = joined (codes "player " ∷ decimal short.player.number ∷ codes "'s journal ends before what others hold of it" ∷ [])

-- what is said if nobody is accused of an input, and which journal is short of inputs
abbrev pub rest_of : Option ShortJournal → Option Player → Answer → Conclusion
rest_of short (Some player) agree = said.Untrue player
rest_of short None (No fault) = said.Opposed fault
rest_of None None Yes = said.Agree
rest_of None None (Short other) = said.Short other
rest_of (Some short) None Yes = said.Short short
rest_of (Some short) None (Short other) = said.Short short

-- what the verdicts say: the first no, else why one is short, else that all are yes
abbrev pub concluded : Answer → Option Player → Answer → Conclusion
concluded (No fault) untrue agree = said.Accused fault
concluded Yes untrue agree = rest_of None untrue agree
concluded (Short short) untrue agree = rest_of (Some short) untrue agree

abbrev pub conclusion_of : Verdicts → Conclusion
conclusion_of verdicts = concluded verdicts.entered verdicts.untrue verdicts.agree

abbrev pub sentence_of : Verdicts → List ℕ
sentence_of verdicts = words_of (conclusion_of verdicts) ++ (10 ∷ [])

-- the name of the file with a number; empty if there is no such file
abbrev pub name_at : Option (Bor (List ℕ)) → List ℕ
name_at None = []
name_at (Some name) = name.now

abbrev pub name_in : List (Bor (List ℕ)) → ℕ → List ℕ
name_in names place = name_at (slice_get names place)

-- the number of the record that ends the last checkpoint of a player's journal, as its records were counted
abbrev pub check_at : Option (Option Journal) → ℕ
check_at None = 0
check_at (Some None) = 0
check_at (Some (Some j)) = j.tally.last_check

abbrev pub check_in : List (Option Journal) → ℕ → ℕ
check_in journals player = check_at (slice_get journals (player - 1))

-- The lines of these verdicts are added, others before them, perhaps one after them, and the sentence at the end.
abbrev pub Tells : Option (List ℕ) → Option (List ℕ) → Verdicts → Type 0
Tells old new verdicts = (before : List ℕ) × (check : ℕ) × (after : List ℕ)
    × Appends old new (before ++ (verdicts_text verdicts check ++ (after ++ sentence_of verdicts)))

-- the lines of three verdicts that are yes
abbrev pub yes_text : ℕ → List ℕ
yes_text count = codes "entered yes\n" ++ (codes "checks yes\n" ++ line (codes "agree yes " ∷ decimal count ∷ []))

-- these lines are added, others before them, perhaps one after them, and the sentence that the journals agree
abbrev pub TellsYes : Option (List ℕ) → Option (List ℕ) → Type 0
TellsYes old new = (before : List ℕ) × (count : ℕ) × (after : List ℕ)
    × Appends old new (before ++ (yes_text count ++ (after ++ codes "the journals agree\n")))
