-- Each step keeps the board's invariant.
use Rattle.std.proofs.Common.{◌≡◌, ◌≢◌, ◌⊎◌, bit_or, ℕ, zero, suc, ◌+◌, List, [], ◌∷◌, ◌++◌, set, false, true≢false, refl, sym, ap, ◌∙◌}
use Rattle.std.proofs.Common.{subst, inl, inr, ⊎_elim, append-nil, append_assoc}
use Rattle.std.specs.Prelude.{slice_set, slice_index}
use mathlib.Core.Option.{some, some-injective, some-ne-none}
use lib.ListN.{get_elem?}
use Rattle.atomic_table.specs.Table.{State, Allows, Splits, Joins, opening, keeps}
use Rattle.atomic_table.proofs.Lists.{at_set, at_snoc}
use Rattle.c8_game.specs.Rules.{Rules}
use Rattle.c8_game.specs.declared.row.Row.{Row}
use Rattle.c8_live.specs.declared.views.Watch.{Watch}
use Rattle.c8_live.specs.declared.views.View.{View}
use Rattle.c8_live.specs.declared.views.View.TheVariants.{Blank, Alone, Joined, Watching, Spent}
use Rattle.c8_live.specs.Starts.{StartValue, origin_from}
use Rattle.c8_live.specs.Words.{word}
use Rattle.c8_live.specs.Tokens.{Begins}
use Rattle.c8_live.specs.checked.Rule.{ask_view, FitsWatch, Fits, Shows, IsBlank, Keeps, newcomer_of, viewer_of, Looks, Compares}

begins_same : (rows : List Row) → Begins rows rows
begins_same rows = record { rest = []; is = sym (append-nil rows) }

begins_more : (xs ys zs : List Row) → Begins xs ys → Begins ys zs → Begins xs zs
begins_more xs ys zs a b = record { rest = a.rest ++ b.rest; is = b.is ∙ ap (λ (l : List Row). l ++ b.rest) a.is ∙ append_assoc xs a.rest b.rest }

-- a viewer still fits after more is published
fits_more : (game : Rules) (from : StartValue) (old rows : List Row) (stop : ℕ) (w : Watch) → Begins old rows
    → FitsWatch game from old stop w → FitsWatch game from rows stop w
fits_more game from old rows stop w later fits =
    record { game_is = fits.game_is; from_is = fits.from_is; begins = begins_more w.seen old rows fits.begins later; has_asked = fits.has_asked }

-- no view but the pen's changes when it publishes
others_fit : (game : Rules) (from : StartValue) (old rows : List Row) (stop seat : ℕ) (v : View) → Begins old rows → seat ≢ 0
    → Fits game from old stop seat v → Fits game from rows stop seat v
others_fit game from old rows stop seat (Blank g) later apart fits = absurd fits
others_fit game from old rows stop seat (Alone g f r) later apart fits = absurd (apart fits.0)
others_fit game from old rows stop seat (Joined g f r w) later apart fits = absurd (apart fits.0)
others_fit game from old rows stop seat (Watching w) later apart fits = fits_more game from old rows stop w later fits
others_fit game from old rows stop seat Spent later apart fits = tt

abbrev AllFit : Rules → StartValue → List Row → ℕ → List View → Type 0
AllFit game from rows stop views = (seat : ℕ) (v : View) → get_elem? views seat ≡ some v → Fits game from rows stop seat v

-- one view is written
fit_set : (game : Rules) (from : StartValue) (rows : List Row) (stop : ℕ) (views : List View) (id : ℕ) (w : View)
    → ((seat : ℕ) (v : View) → seat ≢ id → get_elem? views seat ≡ some v → Fits game from rows stop seat v) → Fits game from rows stop id w
    → AllFit game from rows stop (set views id w)
fit_set game from rows stop views id w others mine seat v e =
    ⊎_elim
    (λ (x : (seat ≡ id) × (w ≡ v)). subst (λ (y : ℕ × View). Fits game from rows stop y.0 y.1) (λ i. (sym x.0 i, x.1 i)) mine)
    (λ (x : (seat ≢ id) × (get_elem? views seat ≡ some v)). others seat v x.0 x.1)
    (at_set views id seat w v e)

-- one seat is added
fit_snoc : (game : Rules) (from : StartValue) (rows : List Row) (stop : ℕ) (views : List View) (w : View) → AllFit game from rows stop views
    → ((seat : ℕ) → Fits game from rows stop seat w)
    → AllFit game from rows stop (views ++ w ∷ [])
fit_snoc game from rows stop views w others mine seat v e =
    ⊎_elim (λ (x : get_elem? views seat ≡ some v). others seat v x)
    (λ (x : w ≡ v). subst (λ (y : View). Fits game from rows stop seat y) x (mine seat)) (at_snoc views w v seat e)

asked_watch : (game : Rules) (from : StartValue) (rows : List Row) (stop : ℕ) (w : Watch) → FitsWatch game from rows stop w
    → FitsWatch game from rows 1 w
asked_watch game from rows stop w fits = record { game_is = fits.game_is; from_is = fits.from_is; begins = fits.begins; has_asked = λ _. refl }

-- each view fits a stop word of 1
asked_fit : (game : Rules) (from : StartValue) (rows : List Row) (stop seat : ℕ) (v : View) → Fits game from rows stop seat v
    → Fits game from rows 1 seat v
asked_fit game from rows stop seat (Blank g) fits = fits
asked_fit game from rows stop seat (Alone g f r) fits = fits
asked_fit game from rows stop seat (Joined g f r w) fits = (fits.0, fits.1, fits.2, fits.3, asked_watch game from rows stop w fits.4)
asked_fit game from rows stop seat (Watching w) fits = asked_watch game from rows stop w fits
asked_fit game from rows stop seat Spent fits = tt

or_one : (stop : ℕ) → (stop ≡ 0) ⊎ (stop ≡ 1) → bit_or stop 1 ≡ 1
or_one stop = ⊎_elim (λ e. ap (λ (n : ℕ). bit_or n 1) e) (λ e. ap (λ (n : ℕ). bit_or n 1) e)

-- words that a step only reads
unchanged : (ws : List ℕ) (a b : ℕ) → ws ≡ a ∷ b ∷ [] → slice_set ws 0 (slice_index ws 0) ≡ a ∷ b ∷ []
unchanged ws a b is = ap (λ (l : List ℕ). slice_set l 0 (slice_index l 0)) is

-- the view is not blank
abbrev IsTold : View → Type 0
IsTold (Blank game) = ⊥
IsTold (Alone game from rows) = Unit
IsTold (Joined game from rows w) = Unit
IsTold (Watching w) = Unit
IsTold Spent = Unit

-- the only seat of a board with nothing published
only_blank : (game : Rules) (views : List View) (seat : ℕ) (v : View) → views ≡ Blank game ∷ [] → get_elem? views seat ≡ some v
    → (seat ≡ 0) × (Blank game ≡ v)
only_blank game views zero v is at = (refl, some-injective _ _ (ap (λ (l : List View). get_elem? l 0) (sym is) ∙ at))
only_blank game views (suc seat) v is at = absurd (some-ne-none v (sym at ∙ ap (λ (l : List View). get_elem? l (suc seat)) is))

word_is : (game g : Rules) (from f : StartValue) (rows : List Row) → g ≡ game → f ≡ from
    → word g (origin_from f) rows ≡ word game (origin_from from) rows
word_is game g from f rows same_game same_from = λ i. word (same_game i) (origin_from (same_from i)) rows

module _ {S : Type 0} where
  -- a board with a seat that is not blank has something published
  shown : (s : State S View) (id : ℕ) (v : View) → Keeps s → get_elem? s.views id ≡ some v → IsTold v → Shows s
  shown s id v k at told = ⊎_elim (λ (b : IsBlank s). absurd (subst IsTold (sym (only_blank b.0 s.views id v b.3 at).1) told)) (λ (k : Shows s). k) k

  -- a board starts blank
  pub begins_blank : (game : Rules) (xs : List S) → Keeps (opening (0 ∷ 0 ∷ []) xs (Blank game))
  begins_blank game xs = inl (game, 0, refl, refl)

  -- the blank seat becomes the pen's
  pub begins_with : (slots id : ℕ) (game : Rules) (from : StartValue) (rows : List Row) (found : ℕ) → found ≡ word game (origin_from from) rows
      → Allows {S = S} Keeps slots id (Blank game, []) 0 (λ _. found) (λ _ after. after ≡ (Alone game from rows, []))
  begins_with slots id game from rows found is s holds homes at room =
      ⊎_elim
      (λ (b : IsBlank s).
      let only = only_blank b.0 s.views id (Blank game) b.3 at in (
        Alone game from rows,
        keeps,
        tt,
        inr (record {
          game = game;
          from = from;
          rows = rows;
          stop = 0;
          words = ap (λ (ws : List ℕ). slice_set ws 0 found) b.2 ∙ ap (λ (n : ℕ). n ∷ 0 ∷ []) is;
          stops = inl refl;
          fits = fit_set game from rows 0 s.views id (Alone game from rows)
              (λ seat v apart e. absurd (apart ((only_blank b.0 s.views seat v b.3 e).0 ∙ sym only.0)))
              (only.0, refl, refl, refl);
        }),
        refl,
      ))
      (λ (k : Shows s). absurd (k.fits id (Blank game) at))
      holds

  -- the pen publishes
  pub publishes : (slots id : ℕ) (game : Rules) (from : StartValue) (old rows : List Row) (found : ℕ) → Begins old rows
      → found ≡ word game (origin_from from) rows
      → Allows {S = S} Keeps slots id (Alone game from old, []) 0 (λ _. found) (λ _ after. after ≡ (Alone game from rows, []))
  publishes slots id game from old rows found later is s holds homes at room =
      let k = shown s id (Alone game from old) holds at tt in
      let mine = k.fits id (Alone game from old) at in (
        Alone game from rows,
        keeps,
        tt,
        inr (record {
          game = k.game;
          from = k.from;
          rows = rows;
          stop = k.stop;
          words = ap (λ (ws : List ℕ). slice_set ws 0 found) k.words
              ∙ ap (λ (n : ℕ). n ∷ k.stop ∷ []) (is ∙ word_is k.game game k.from from rows mine.1 mine.2);
          stops = k.stops;
          fits = fit_set k.game k.from rows k.stop s.views id (Alone game from rows)
              (λ seat v apart e. others_fit k.game k.from k.rows rows k.stop seat v (subst (λ (r : List Row). Begins r rows) mine.3 later)
              (λ z. apart (z ∙ sym mine.0)) (k.fits seat v e))
              (mine.0, mine.1, mine.2, refl);
        }),
        refl,
      )

  -- a viewer looks
  pub looks : (slots id : ℕ) (w : Watch) → Allows {S = S} Keeps slots id (Watching w, []) 0 (λ n. n) (Looks (Watching w, []))
  looks slots id w s holds homes at room =
      let k = shown s id (Watching w) holds at tt in
      let mine = k.fits id (Watching w) at in
      let now : Watch = record { game = w.game; from = w.from; seen = k.rows; asked = w.asked; loads = w.loads + 1 } in (
        Watching now,
        keeps,
        tt,
        inr (record {
          game = k.game;
          from = k.from;
          rows = k.rows;
          stop = k.stop;
          words = unchanged s.words (word k.game (origin_from k.from) k.rows) k.stop k.words;
          stops = k.stops;
          fits = fit_set k.game k.from k.rows k.stop s.views id (Watching now) (λ seat v apart e. k.fits seat v e)
              (record { game_is = mine.game_is; from_is = mine.from_is; begins = begins_same k.rows; has_asked = mine.has_asked });
        }),
        (
          now,
          refl,
          record {
            same_game = refl;
            same_from = refl;
            begins = mine.begins;
            finds = ap (λ (l : List ℕ). slice_index l 0) k.words ∙ word_is w.game k.game w.from k.from k.rows (sym mine.game_is) (sym mine.from_is);
            same_asked = refl;
            one_more = refl;
          },
        ),
      )

  -- a new viewer is split off the pen
  pub enlists : (id : ℕ) (game : Rules) (from : StartValue) (rows : List Row)
      → Splits {S = S} Keeps id (Alone game from rows) (Alone game from rows) (newcomer_of (Alone game from rows))
  enlists id game from rows s holds at =
      let k = shown s id (Alone game from rows) holds at tt in
      let mine = k.fits id (Alone game from rows) at in
      let new : FitsWatch k.game k.from k.rows k.stop (record { game = game; from = from; seen = rows; asked = false; loads = 0 }) =
      record {
        game_is = mine.1;
        from_is = mine.2;
        begins = subst (λ (r : List Row). Begins rows r) mine.3 (begins_same rows);
        has_asked = λ e. absurd (true≢false (sym e));
      } in
      inr (record {
        game = k.game;
        from = k.from;
        rows = k.rows;
        stop = k.stop;
        words = k.words;
        stops = k.stops;
        fits = fit_snoc k.game k.from k.rows k.stop (set s.views id (Alone game from rows)) (newcomer_of (Alone game from rows))
            (fit_set k.game k.from k.rows k.stop s.views id (Alone game from rows) (λ seat v apart e. k.fits seat v e) mine)
            (λ seat. new);
      })

  -- the pen takes a viewer's view
  pub joins : (id : ℕ) (game : Rules) (from : StartValue) (rows : List Row) (other : ℕ) (w : Watch)
      → Joins {S = S} Keeps id (Alone game from rows) other (Watching w) (Joined game from rows w) Spent
  joins id game from rows other w s holds at apart there =
      let k = shown s id (Alone game from rows) holds at tt in
      let mine = k.fits id (Alone game from rows) at in
      let theirs : FitsWatch k.game k.from k.rows k.stop w = ⊎_elim
      (λ (t : (other ≡ id) × (Joined game from rows w ≡ Watching w)). absurd (apart t.0))
      (λ (t : (other ≢ id) × (get_elem? s.views other ≡ some (Watching w))). k.fits other (Watching w) t.1)
      (at_set s.views id other (Joined game from rows w) (Watching w) there) in
      inr (record {
        game = k.game;
        from = k.from;
        rows = k.rows;
        stop = k.stop;
        words = k.words;
        stops = k.stops;
        fits = fit_set k.game k.from k.rows k.stop (set s.views id (Joined game from rows w)) other Spent
            (λ seat v away e. fit_set k.game k.from k.rows k.stop s.views id (Joined game from rows w) (λ seat' v' _ e'. k.fits seat' v' e')
            (mine.0, mine.1, mine.2, mine.3, theirs) seat v e)
            tt;
      })

  -- the pen with a viewer looks
  pub compares : (slots id : ℕ) (game : Rules) (from : StartValue) (rows : List Row) (w : Watch)
      → Allows {S = S} Keeps slots id (Joined game from rows w, []) 0 (λ n. n) (Compares (Joined game from rows w, []))
  compares slots id game from rows w s holds homes at room =
      let k = shown s id (Joined game from rows w) holds at tt in
      let mine = k.fits id (Joined game from rows w) at in (
        Joined game from rows w,
        keeps,
        tt,
        inr (record {
          game = k.game;
          from = k.from;
          rows = k.rows;
          stop = k.stop;
          words = unchanged s.words (word k.game (origin_from k.from) k.rows) k.stop k.words;
          stops = k.stops;
          fits = fit_set k.game k.from k.rows k.stop s.views id (Joined game from rows w) (λ seat v apart e. k.fits seat v e) mine;
        }),
        (
          refl,
          (
            ap (λ (l : List ℕ). slice_index l 0) k.words ∙ (λ i. word (sym mine.1 i) (origin_from (sym mine.2 i)) (sym mine.3 i)),
            mine.4.game_is ∙ sym mine.1,
            mine.4.from_is ∙ sym mine.2,
            subst (λ (r : List Row). Begins w.seen r) (sym mine.3) mine.4.begins,
          ),
        ),
      )

  -- the viewer is split off the pen again
  pub parts : (id : ℕ) (game : Rules) (from : StartValue) (rows : List Row) (w : Watch)
      → Splits {S = S} Keeps id (Joined game from rows w) (Alone game from rows) (viewer_of (Joined game from rows w))
  parts id game from rows w s holds at =
      let k = shown s id (Joined game from rows w) holds at tt in
      let mine = k.fits id (Joined game from rows w) at in
      let new : FitsWatch k.game k.from k.rows k.stop (record { game = game; from = from; seen = rows; asked = w.asked; loads = w.loads }) =
      record {
        game_is = mine.1;
        from_is = mine.2;
        begins = subst (λ (r : List Row). Begins rows r) mine.3 (begins_same rows);
        has_asked = mine.4.has_asked;
      } in
      inr (record {
        game = k.game;
        from = k.from;
        rows = k.rows;
        stop = k.stop;
        words = k.words;
        stops = k.stops;
        fits = fit_snoc k.game k.from k.rows k.stop (set s.views id (Alone game from rows)) (viewer_of (Joined game from rows w))
            (fit_set k.game k.from k.rows k.stop s.views id (Alone game from rows) (λ seat v apart e. k.fits seat v e)
            (mine.0, mine.1, mine.2, mine.3))
            (λ seat. new);
      })

  -- a viewer asks for the end of the match
  pub asks : (slots id : ℕ) (w : Watch) → Allows {S = S} Keeps slots id (Watching w, []) 1 (λ n. bit_or n 1)
      (λ _ after. after ≡ (ask_view (Watching w), []))
  asks slots id w s holds homes at room =
      let k = shown s id (Watching w) holds at tt in
      let mine = k.fits id (Watching w) at in (
        ask_view (Watching w),
        keeps,
        tt,
        inr (record {
          game = k.game;
          from = k.from;
          rows = k.rows;
          stop = 1;
          words = ap (λ (ws : List ℕ). slice_set ws 1 (bit_or (slice_index ws 1) 1)) k.words
              ∙ ap (λ (n : ℕ). word k.game (origin_from k.from) k.rows ∷ n ∷ []) (or_one k.stop k.stops);
          stops = inr refl;
          fits = fit_set k.game k.from k.rows 1 s.views id (ask_view (Watching w))
              (λ seat v apart e. asked_fit k.game k.from k.rows k.stop seat v (k.fits seat v e))
              (record { game_is = mine.game_is; from_is = mine.from_is; begins = mine.begins; has_asked = λ _. refl });
        }),
        refl,
      )

  -- the pen only loads the stop word
  pub wishes : (slots id : ℕ) (game : Rules) (from : StartValue) (rows : List Row)
      → Allows {S = S} Keeps slots id (Alone game from rows, []) 1 (λ n. n) (λ _ after. after ≡ (Alone game from rows, []))
  wishes slots id game from rows s holds homes at room =
      let k = shown s id (Alone game from rows) holds at tt in (
        Alone game from rows,
        keeps,
        tt,
        inr (record {
          game = k.game;
          from = k.from;
          rows = k.rows;
          stop = k.stop;
          words = ap (λ (ws : List ℕ). slice_set ws 1 (slice_index ws 1)) k.words;
          stops = k.stops;
          fits = fit_set k.game k.from k.rows k.stop s.views id (Alone game from rows) (λ seat v apart e. k.fits seat v e)
              (k.fits id (Alone game from rows) at);
        }),
        refl,
      )
