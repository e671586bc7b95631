-- The steps, for tokens whose views are known by their invariants.
use Rattle.std.proofs.Common.{◌≡◌, ℕ, [], ◌∷◌, ◌++◌, sym, ap, ◌∙◌, subst}
use Rattle.atomic_table.specs.Table.{Me, Allows, Splits, Joins}
use Rattle.atomic_table.specs.Seated.{TableId}
use Rattle.c8_world.specs.World.{player_of}
use Rattle.c8_rig.specs.declared.views.View.{View}
use Rattle.c8_rig.specs.declared.views.View.TheVariants.{Keeper, Both, Spent}
use Rattle.c8_rig.specs.Log.{NoteValue}
use Rattle.c8_rig.specs.checked.Rule.{Keeps, with_player, new_entry, both, keeper_of, entry_of, noted, Compares}
use Rattle.c8_rig.specs.Tokens.{EntryValue}
use Rattle.c8_rig.specs.checked.Views.{IsKeeper, IsOwn, IsBoth, own_value}
use Rattle.c8_rig.proofs.Moves.{enlists, joins, parts, notes, compares}

module _ {S : Type 0} where
  pub enlists_as : (id : ℕ) (me : Me S View) → IsKeeper me → Splits {S = S} Keeps id me.0 (with_player me.0) (new_entry me.0)
  enlists_as id me k = subst (λ (m : Me S View). Splits {S = S} Keeps id m.0 (with_player m.0) (new_entry m.0)) (sym k.2) (enlists id k.0 k.1)

  pub joins_as : (id : ℕ) (me : Me S View) (other : ℕ) (theirs : Me S View) → IsKeeper me → IsOwn theirs
      → Joins {S = S} Keeps id me.0 other theirs.0 (both me.0 theirs.0) Spent
  joins_as id me other theirs k o =
      subst (λ (m : Me S View). Joins {S = S} Keeps id m.0 other theirs.0 (both m.0 theirs.0) Spent) (sym k.2)
      (subst (λ (m : Me S View). Joins {S = S} Keeps id (Keeper k.0 k.1) other m.0 (both (Keeper k.0 k.1) m.0) Spent) (sym o.2)
      (joins id k.0 k.1 other o.0 o.1))

  pub joined_is : (me theirs after : Me S View) (k : IsKeeper me) (o : IsOwn theirs) → after ≡ (both me.0 theirs.0, me.1)
      → after ≡ (Both k.0 k.1 o.0 o.1, [])
  joined_is me theirs after k o is = is ∙ (λ i. (both (k.2 i).0 (o.2 i).0, (k.2 i).1))

  pub parts_as : (id : ℕ) (me : Me S View) → IsBoth me → Splits {S = S} Keeps id me.0 (keeper_of me.0) (entry_of me.0)
  parts_as id me b = subst (λ (m : Me S View). Splits {S = S} Keeps id m.0 (keeper_of m.0) (entry_of m.0)) (sym b.4) (parts id b.0 b.1 b.2 b.3)

  pub notes_as : (slots id : ℕ) (me : Me S View) (note : NoteValue) (b : IsBoth me) → player_of note.act ≡ b.2
      → Allows {S = S} Keeps slots id me 0 (λ word. word) (λ _ after. after ≡ (noted note me.0, me.1))
  notes_as slots id me note b of =
      subst (λ (m : Me S View). Allows {S = S} Keeps slots id m 0 (λ word. word) (λ _ after. after ≡ (noted note m.0, m.1))) (sym b.4)
      (notes slots id b.0 b.1 b.2 b.3 note of)

  pub compares_as : (slots id : ℕ) (me : Me S View) → IsBoth me → Allows {S = S} Keeps slots id me 0 (λ word. word) (Compares me)
  compares_as slots id me b = subst (λ (m : Me S View). Allows {S = S} Keeps slots id m 0 (λ word. word) (Compares m)) (sym b.4)
      (compares slots id b.0 b.1 b.2 b.3)

  -- the player whose part a token has
  pub player_is : (ether : TableId) (me : Me S View) (value : EntryValue) (o : IsOwn me) → own_value ether me.0 ≡ value → o.0 ≡ value.player
  player_is ether me value o is = ap (λ (v : EntryValue). v.player) (ap (λ (m : Me S View). own_value ether m.0) (sym o.2) ∙ is)

  pub noted_is : (note : NoteValue) (me after : Me S View) (b : IsBoth me) → after ≡ (noted note me.0, me.1)
      → after ≡ (Both b.0 (b.1 ++ note ∷ []) b.2 (b.3 ++ note ∷ []), [])
  noted_is note me after b is = is ∙ ap (λ (m : Me S View). (noted note m.0, m.1)) b.4
