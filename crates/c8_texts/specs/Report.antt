-- The machine report, as it is printed.
use Rattle.std.specs.Prelude.{◌≡◌, ℕ, List, [], ◌∷◌, ◌++◌, codes, map, Option, Result, Ok, Err, Bool, true, false}
use Rattle.std.specs.Fmt.{decimal}
use Rattle.std.specs.List.{flat_map, range_with_len}
use Rattle.std.specs.Io.KnownBytes.{Appends}
use Rattle.c8_command.specs.Status.{status_of}
use Rattle.c8_command.specs.declared.refusal.Part.{Part}
use Rattle.c8_command.specs.declared.status.Status.{Status}
use Rattle.c8_command.specs.declared.status.Status.TheVariants.{Done}
use Rattle.c8_screen.specs.Points.{Points, width, height}
use Rattle.c8_machine.specs.State.{state}
use Rattle.c8_texts.specs.declared.lines.Played.{Played}

-- a lit point is #, a dark one is .
abbrev pub mark_of : Bool → ℕ
mark_of true = 35
mark_of false = 46

-- a row of a screen, column 0 first, and a line feed
abbrev pub row_text : Points → ℕ → List ℕ
row_text lit y = map (λ x. mark_of (lit x y)) (range_with_len 0 width) ++ (10 ∷ [])

abbrev pub screen_text : Points → List ℕ
screen_text lit = flat_map (row_text lit) (range_with_len 0 height)

abbrev pub frames_text : ℕ → List ℕ
frames_text frames = codes "frames " ++ (decimal frames ++ (10 ∷ []))

-- some text is added
abbrev pub Grows : Option (List ℕ) → Option (List ℕ) → Type 0
Grows old new = (text : List ℕ) × Appends old new text

-- A report is added: it begins with the number of frames and ends with the screen. The lines between them are not defined here.
abbrev pub Reports : Option (List ℕ) → Option (List ℕ) → Played → Type 0
Reports old new played = (between : List ℕ) × Appends old new (frames_text played.frames ++ (between ++ screen_text (state played.machine).screen))

-- The command is done, and has added the report; or the part of its error decides its status.
abbrev pub IsTold : {E : Type 0} → (E → Part) → Option (List ℕ) → Option (List ℕ) → Result Played E → Status → Type 0
IsTold part old new (Ok played) status = (status ≡ Done) × Reports old new played
IsTold part old new (Err error) status = status ≡ status_of (part error)
