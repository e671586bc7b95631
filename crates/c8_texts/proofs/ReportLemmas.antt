-- What a report adds, part by part: `report` writes it.
use Rattle.std.proofs.Common.{◌≡◌, ◌<◌, ◌≤◌, ℕ, zero, suc, ◌+◌, List, [], ◌∷◌, ◌++◌, Bool, Option, Some, None, Result, Ok, Err, get_or}
use Rattle.std.proofs.Common.{length, map, refl, sym, ap, subst, ◌∙◌, inl, inr, arith}
use Rattle.std.specs.Fmt.{◌++?◌}
use Rattle.std.specs.Prelude.{OnOk, IfSome, option_map}
use Rattle.std.specs.Io.KnownBytes.{Appends}
use Rattle.std.specs.List.{flat_map, range_with_len}
use Rattle.std.proofs.KnownBytes.{Appends-trans}
use Rattle.std.proofs.Math.ListN.{get_or-append}
use Rattle.std.proofs.lemmas.Bool.{cases_lt}
use Rattle.std.proofs.lemmas.Grind.{flat_map-append}
use Rattle.std.proofs.lemmas.List.{ext_get_or, get_or_push, append-nil, length-append}
use Rattle.std.proofs.lemmas.List.FromFn.{get_or-map-range_with_len, length-map-range_with_len}
use Rattle.c8_screen.specs.Points.{Points}
use Rattle.c8_machine.specs.State.{state}
use Rattle.c8_texts.specs.Report.{mark_of, row_text, screen_text, frames_text, Grows, Reports}
use Rattle.c8_texts.specs.checked.Grows.{grows_then}
use Rattle.c8_texts.specs.declared.lines.Played.{Played}

pub grows_more : {T E : Type 0} (a b c : Option (List ℕ)) (told : Result T E) → Grows a b → OnOk told (Grows b c) → OnOk told (Grows a c)
grows_more a b c (Ok done) first last = grows_then a b c first last
grows_more a b c (Err error) first last = tt

-- ---- texts with digits in another base

abbrev pub IsKnown : Option (List ℕ) → Type 0
IsKnown text = (x : List ℕ) × (text ≡ Some x)

pub known : (x : List ℕ) → IsKnown (Some x)
known x = (x, refl)

pub known_then : (a b : Option (List ℕ)) → IsKnown a → IsKnown b → IsKnown (a ++? b)
known_then (Some x) (Some y) first next = (x ++ y, refl)
known_then (Some x) None first next = absurd let no_way : None ≡ Some next.0 = next.1 in cc
known_then None b first next = absurd let no_way : None ≡ Some first.0 = first.1 in cc

pub known_styled : (style : List ℕ → List ℕ) (text : Option (List ℕ)) (x : List ℕ) → text ≡ Some x → IsKnown (option_map style text)
known_styled style text x is = (style x, ap (option_map style) is)

pub grows_known : (a b text : Option (List ℕ)) → IsKnown text → IfSome text (Appends a b) → Grows a b
grows_known a b (Some x) is appends = (x, appends)
grows_known a b None is appends = absurd let no_way : None ≡ Some is.0 = is.1 in cc

-- one number, and two, in a line
pub grows_hex : (a b : Option (List ℕ)) (style : List ℕ → List ℕ) (before : List ℕ) (digits : Option (List ℕ)) (x : List ℕ)
    → digits ≡ Some x → IfSome (Some before ++? option_map style digits) (Appends a b) → Grows a b
grows_hex a b style before digits x is appends =
    grows_known a b (Some before ++? option_map style digits)
    (known_then (Some before) (option_map style digits) (known before) (known_styled style digits x is)) appends

module _ (a b : Option (List ℕ)) (style other : List ℕ → List ℕ) (before between : List ℕ) (digits more : Option (List ℕ)) (x y : List ℕ)
    (is : digits ≡ Some x) (also : more ≡ Some y) where
  two : (rest : Option (List ℕ)) → IsKnown rest
      → IsKnown (Some before ++? (option_map style digits ++? (Some between ++? (option_map other more ++? rest))))
  two rest end =
      known_then (Some before) (option_map style digits ++? (Some between ++? (option_map other more ++? rest))) (known before)
      (known_then (option_map style digits) (Some between ++? (option_map other more ++? rest)) (known_styled style digits x is)
      (known_then (Some between) (option_map other more ++? rest) (known between)
      (known_then (option_map other more) rest (known_styled other more y also) end)))

  pub grows_two : (rest : Option (List ℕ)) → IsKnown rest
      → IfSome (Some before ++? (option_map style digits ++? (Some between ++? (option_map other more ++? rest)))) (Appends a b) → Grows a b
  grows_two rest end appends = grows_known a b
      (Some before ++? (option_map style digits ++? (Some between ++? (option_map other more ++? rest)))) (two rest end) appends

-- ---- the screen and the whole report

-- the points of a row, marked one by one
module _ (lit : Points) (y : ℕ) (text : List ℕ) (size : length text ≡ 65) (marked : (x : ℕ) → x < 64 → get_or text x 0 ≡ mark_of (lit x y))
    (end : get_or text 64 0 ≡ 10) where
  abbrev marks : List ℕ
  marks = map (λ x. mark_of (lit x y)) (range_with_len 0 64)

  long : length marks ≡ 64
  long = length-map-range_with_len (λ x. mark_of (lit x y)) 0 64

  at : (x : ℕ) → x < 65 → get_or text x 0 ≡ get_or (marks ++ 10 ∷ []) x 0
  at x below =
      elim (cases_lt x 64) [
        | inl within ↦
            marked x within ∙ sym (get_or-map-range_with_len (λ k. mark_of (lit k y)) 0 64 x x 0 within (omega arith))
            ∙ sym (get_or-append marks (10 ∷ []) 0 x (omega (arith, within, long)))
        | inr past ↦ let last : x ≡ 64 = omega (arith, below, past) in
            rw last (end ∙ sym (get_or_push marks 10 0 64 long))
      ]

  pub row_is : text ≡ row_text lit y
  row_is =
      let sizes : length text ≡ length (marks ++ 10 ∷ []) = omega (arith, size, long, length-append marks (10 ∷ [])) in
      ext_get_or 0 text (marks ++ 10 ∷ []) sizes (λ x below. at x (omega (arith, size, below)))

range_suc : (a n : ℕ) → range_with_len a (suc n) ≡ range_with_len a n ++ (a + n) ∷ []
range_suc a zero = let same : a ≡ a + 0 = omega arith in ap (λ (m : ℕ). m ∷ []) same
range_suc a (suc n) =
    let same : a + 1 + n ≡ a + suc n = omega arith in
    ap (λ (rest : List ℕ). a ∷ rest) (range_suc (a + 1) n ∙ ap (λ (m : ℕ). range_with_len (a + 1) n ++ m ∷ []) same)

range_next : (n : ℕ) → range_with_len 0 (n + 1) ≡ range_with_len 0 n ++ n ∷ []
range_next n =
    let one : n + 1 ≡ suc n = omega arith in
    let same : 0 + n ≡ n = omega arith in
    ap (range_with_len 0) one ∙ range_suc 0 n ∙ ap (λ (m : ℕ). range_with_len 0 n ++ m ∷ []) same

-- one more row of a screen
pub rows_more : (a b c : Option (List ℕ)) (lit : Points) (y : ℕ) (row : List ℕ) → Appends a b (flat_map (row_text lit) (range_with_len 0 y))
    → row ≡ row_text lit y → Appends b c row → Appends a c (flat_map (row_text lit) (range_with_len 0 (y + 1)))
rows_more a b c lit y row before is appends =
    let so_far = flat_map (row_text lit) (range_with_len 0 y) in
    let whole : so_far ++ row ≡ flat_map (row_text lit) (range_with_len 0 (y + 1)) =
    ap (λ (last : List ℕ). so_far ++ last) (is ∙ sym (append-nil (row_text lit y)))
    ∙ sym (flat_map-append (row_text lit) (range_with_len 0 y) (y ∷ [])) ∙ ap (flat_map (row_text lit)) (sym (range_next y)) in
    subst (λ (text : List ℕ). Appends a c text) whole (Appends-trans a b c so_far row before appends)

-- all rows
pub rows_all : (a b : Option (List ℕ)) (lit : Points) (y : ℕ) → y ≤ 32 → 32 ≤ y → Appends a b (flat_map (row_text lit) (range_with_len 0 y))
    → Appends a b (screen_text lit)
rows_all a b lit y most least appends =
    let all : y ≡ 32 = omega (arith, most, least) in
    subst (λ (n : ℕ). Appends a b (flat_map (row_text lit) (range_with_len 0 n))) all appends

-- the whole report
pub reports : {T E : Type 0} (a b c d : Option (List ℕ)) (lit : Points) (played : Played) (told : Result T E)
    → lit ≡ (state played.machine).screen → Appends a b (frames_text played.frames) → Grows b c → OnOk told (Appends c d (screen_text lit))
    → OnOk told (Reports a d played)
reports a b c d lit played (Ok done) same frames between screen =
    let shown = subst (λ (points : Points). Appends c d (screen_text points)) same screen in (
      between.0,
      Appends-trans a b d (frames_text played.frames) (between.0 ++ screen_text (state played.machine).screen) frames
          (Appends-trans b c d between.0 (screen_text (state played.machine).screen) between.1 shown),
    )
reports a b c d lit played (Err error) same frames between screen = tt
