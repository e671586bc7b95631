-- What `rig` prints.
use Rattle.std.specs.Prelude.{ℕ, List, ◌++◌, codes, Bool, true, false, Option, Some, None}

abbrev pub agree_text : Bool → List ℕ
agree_text true = codes "agree yes\n"
agree_text false = codes "agree no\n"

-- for a gathered match, whether its peers agree; for a torn log, that it is not lawful
abbrev pub verdict_text : Option Bool → List ℕ
verdict_text (Some agree) = codes "lawful yes\n" ++ agree_text agree
verdict_text None = codes "lawful no\n"
