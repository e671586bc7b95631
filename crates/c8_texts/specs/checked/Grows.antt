-- An output that grows, part by part: reports and the lines of commands above are written so.
use Rattle.std.proofs.Common.{ℕ, List, [], ◌++◌, Option, Result, Ok, Err}
use Rattle.std.specs.Prelude.{OnOk}
use Rattle.std.specs.Io.KnownBytes.{Appends}
use Rattle.std.proofs.KnownBytes.{Appends-nil, Appends-trans}
use Rattle.c8_texts.specs.Report.{Grows}

pub grows_by : (a b : Option (List ℕ)) (text : List ℕ) → Appends a b text → Grows a b
grows_by a b text appends = (text, appends)

pub grows_no_more : (a : Option (List ℕ)) → Grows a a
grows_no_more a = ([], Appends-nil a)

pub grows_then : (a b c : Option (List ℕ)) → Grows a b → Grows b c → Grows a c
grows_then a b c first next = (first.0 ++ next.0, Appends-trans a b c first.0 next.0 first.1 next.1)

pub grows_last : {T E : Type 0} (a b c : Option (List ℕ)) (text : List ℕ) (told : Result T E) → Grows a b → OnOk told (Appends b c text)
    → OnOk told (Grows a c)
grows_last a b c text (Ok done) first last = grows_then a b c first (text, last)
grows_last a b c text (Err error) first last = tt
