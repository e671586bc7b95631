-- The steps for tokens whose views are known by their invariants.
use Rattle.std.proofs.Common.{◌≡◌, bit_or, ℕ, ◌/◌, ◌%◌, ◌^◌, List, [], sym, ap, ◌∙◌, subst}
use Rattle.atomic_table.specs.Table.{Me, Allows, Splits, Joins}
use Rattle.atomic_table.specs.Seated.{TableId}
use Rattle.c8_game.specs.Rules.{Rules}
use Rattle.c8_game.specs.declared.row.Row.{Row}
use Rattle.c8_digest.specs.Origin.{Origin}
use Rattle.c8_live.specs.declared.views.Watch.{Watch}
use Rattle.c8_live.specs.declared.views.View.{View}
use Rattle.c8_live.specs.declared.views.View.TheVariants.{Blank, Alone, Joined, Watching, Spent}
use Rattle.c8_live.specs.Starts.{StartValue, origin_from}
use Rattle.c8_live.specs.Words.{word, LookValue, look_of}
use Rattle.c8_live.specs.checked.Rule.{ask_view, Keeps, begin_view, publish_view, newcomer_of, join_views, pen_of, viewer_of, LooksAs}
use Rattle.c8_live.specs.checked.Rule.{Looks, Compares, TellsViewer, TellsPen}
use Rattle.c8_live.specs.Tokens.{Begins, PenValue, ViewerValue, SeesMore}
use Rattle.c8_live.specs.checked.Views.{pen_value, viewer_value, IsPen, IsViewer}
use Rattle.c8_live.proofs.WordLemmas.{word_count, word_bits}
use Rattle.c8_live.proofs.Moves.{begins_with, publishes, looks, enlists, joins, compares, parts, asks, wishes}

pub look_is : (game : Rules) (from : Origin) (rows : List Row) (found : ℕ) (look : LookValue) → found ≡ word game from rows
    → look.count ≡ found / 2 ^ 40 → look.bits ≡ found % 2 ^ 40
    → look ≡ look_of game from rows
look_is game from rows found look is count bits =
    λ i. record { count = (count ∙ word_count game from rows found is) i; bits = (bits ∙ word_bits game from rows found is) i }

-- the seat is that of a pen with a viewer
abbrev pub IsJoined : {S : Type 0} → Me S View → Type 0
IsJoined {S} me = (game : Rules) × (from : StartValue) × (rows : List Row) × (w : Watch) × (me ≡ (Joined game from rows w, []))

module _ {S : Type 0} where
  pub begins_as : (slots id : ℕ) (me : Me S View) (game : Rules) (from : StartValue) (rows : List Row) (found : ℕ) → me ≡ (Blank game, [])
      → found ≡ word game (origin_from from) rows
      → Allows {S = S} Keeps slots id me 0 (λ _. found) (λ _ after. after ≡ (begin_view from rows me.0, me.1))
  begins_as slots id me game from rows found is has =
      subst (λ (m : Me S View). Allows {S = S} Keeps slots id m 0 (λ _. found) (λ _ after. after ≡ (begin_view from rows m.0, m.1))) (sym is)
      (begins_with slots id game from rows found has)

  pub begun_is : (me after : Me S View) (game : Rules) (from : StartValue) (rows : List Row) → me ≡ (Blank game, [])
      → after ≡ (begin_view from rows me.0, me.1) → after ≡ (Alone game from rows, [])
  begun_is me after game from rows is now = now ∙ ap (λ (m : Me S View). (begin_view from rows m.0, m.1)) is

  pub enlists_as : (id : ℕ) (me : Me S View) → IsPen me → Splits {S = S} Keeps id me.0 me.0 (newcomer_of me.0)
  enlists_as id me p = subst (λ (m : Me S View). Splits {S = S} Keeps id m.0 m.0 (newcomer_of m.0)) (sym p.3) (enlists id p.0 p.1 p.2)

  pub publishes_as : (slots id : ℕ) (board : TableId) (me : Me S View) (value : PenValue) (rows : List Row) (found : ℕ) → IsPen me
      → pen_value board me.0 ≡ value
      → Begins value.rows rows → found ≡ word value.game (origin_from value.from) rows
      → Allows {S = S} Keeps slots id me 0 (λ _. found) (λ _ after. after ≡ (publish_view rows me.0, me.1))
  publishes_as slots id board me value rows found p is later has =
      let same : pen_value board (Alone p.0 p.1 p.2) ≡ value = ap (λ (m : Me S View). pen_value board m.0) (sym p.3) ∙ is in
      subst (λ (m : Me S View). Allows {S = S} Keeps slots id m 0 (λ _. found) (λ _ after. after ≡ (publish_view rows m.0, m.1))) (sym p.3)
      (publishes slots id p.0 p.1 p.2 rows found
      (subst (λ (r : List Row). Begins r rows) (sym (ap (λ (v : PenValue). v.rows) same)) later)
      (has ∙ ap (λ (v : PenValue). word v.game (origin_from v.from) rows) (sym same)))

  pub looks_as : (slots id : ℕ) (me : Me S View) → IsViewer me → Allows {S = S} Keeps slots id me 0 (λ n. n) (Looks me)
  looks_as slots id me v = subst (λ (m : Me S View). Allows {S = S} Keeps slots id m 0 (λ n. n) (Looks m)) (sym v.1) (looks slots id v.0)

  -- a viewer stays a viewer
  pub still_viewer : (me after : Me S View) (found : ℕ) → IsViewer me → Looks me found after → IsViewer after
  still_viewer me after found v l = (l.0, l.1 ∙ ap (λ (m : Me S View). (Watching l.0, m.1)) v.1)

  -- what a viewer's look tells it
  pub sees : (board now : TableId) (me after : Me S View) (found : ℕ) (look : LookValue) (value : ViewerValue) → IsViewer me
      → viewer_value board me.0 ≡ value
      → Looks me found after → now ≡ board → look.count ≡ found / 2 ^ 40 → look.bits ≡ found % 2 ^ 40 → SeesMore value look (viewer_value now after.0)
  sees board now me after found look value v is l same count bits =
      let same_value : viewer_value board (Watching v.0) ≡ value = ap (λ (m : Me S View). viewer_value board m.0) (sym v.1) ∙ is in
      let tells : LooksAs v.0 found l.0 = subst (λ (m : Me S View). TellsViewer m.0 found l.0) v.1 l.2 in
      let new : viewer_value now (Watching l.0) ≡ viewer_value now after.0 = ap (λ (m : Me S View). viewer_value now m.0) (sym l.1) in
      subst (λ (x : ViewerValue). SeesMore value look x) new
      (subst (λ (x : ViewerValue). SeesMore x look (viewer_value now (Watching l.0))) same_value
      (record {
        begins = tells.begins;
        finds = look_is v.0.game (origin_from v.0.from) l.0.seen found look tells.finds count bits;
        one_more = tells.one_more;
        same_board = same;
        same_game = tells.same_game;
        same_from = tells.same_from;
        same_asked = tells.same_asked;
      }))

  pub joins_as : (id : ℕ) (me : Me S View) (other : ℕ) (theirs : Me S View) → IsPen me → IsViewer theirs
      → Joins {S = S} Keeps id me.0 other theirs.0 (join_views me.0 theirs.0) Spent
  joins_as id me other theirs p v =
      subst (λ (m : Me S View). Joins {S = S} Keeps id m.0 other theirs.0 (join_views m.0 theirs.0) Spent) (sym p.3)
      (subst (λ (m : Me S View). Joins {S = S} Keeps id (Alone p.0 p.1 p.2) other m.0 (join_views (Alone p.0 p.1 p.2) m.0) Spent) (sym v.1)
      (joins id p.0 p.1 p.2 other v.0))

  pub joined_is : (me theirs after : Me S View) (p : IsPen me) (v : IsViewer theirs) → after ≡ (join_views me.0 theirs.0, me.1)
      → after ≡ (Joined p.0 p.1 p.2 v.0, [])
  joined_is me theirs after p v is = is ∙ (λ i. (join_views (p.3 i).0 (v.1 i).0, (p.3 i).1))

  pub compares_as : (slots id : ℕ) (me : Me S View) → IsJoined me → Allows {S = S} Keeps slots id me 0 (λ n. n) (Compares me)
  compares_as slots id me j = subst (λ (m : Me S View). Allows {S = S} Keeps slots id m 0 (λ n. n) (Compares m)) (sym j.4)
      (compares slots id j.0 j.1 j.2 j.3)

  pub parts_as : (id : ℕ) (me : Me S View) → IsJoined me → Splits {S = S} Keeps id me.0 (pen_of me.0) (viewer_of me.0)
  parts_as id me j = subst (λ (m : Me S View). Splits {S = S} Keeps id m.0 (pen_of m.0) (viewer_of m.0)) (sym j.4) (parts id j.0 j.1 j.2 j.3)

  -- what a look tells the pen with a viewer
  pub told : (me after : Me S View) (found : ℕ) (j : IsJoined me) → Compares me found after → TellsPen (Joined j.0 j.1 j.2 j.3) found
  told me after found j c = subst (λ (m : Me S View). TellsPen m.0 found) j.4 c.1

  -- a pen's look, by what clauses see of it
  pub pen_is : (board : TableId) (me : Me S View) (value : PenValue) (p : IsPen me) → pen_value board me.0 ≡ value
      → look_of p.0 (origin_from p.1) p.2 ≡ look_of value.game (origin_from value.from) value.rows
  pen_is board me value p is = ap (λ (v : PenValue). look_of v.game (origin_from v.from) v.rows)
      (ap (λ (m : Me S View). pen_value board m.0) (sym p.3) ∙ is)

  pub asks_as : (slots id : ℕ) (me : Me S View) → IsViewer me
      → Allows {S = S} Keeps slots id me 1 (λ n. bit_or n 1) (λ _ after. after ≡ (ask_view me.0, me.1))
  asks_as slots id me v =
      subst (λ (m : Me S View). Allows {S = S} Keeps slots id m 1 (λ n. bit_or n 1) (λ _ after. after ≡ (ask_view m.0, m.1))) (sym v.1)
      (asks slots id v.0)

  pub wishes_as : (slots id : ℕ) (me : Me S View) → IsPen me → Allows {S = S} Keeps slots id me 1 (λ n. n) (λ _ after. after ≡ me)
  wishes_as slots id me p = subst (λ (m : Me S View). Allows {S = S} Keeps slots id m 1 (λ n. n) (λ _ after. after ≡ m)) (sym p.3)
      (wishes slots id p.0 p.1 p.2)
