-- What a desk knows of its screen, from one call to the next.
use Rattle.std.proofs.Common.{inl, inr, ℕ, List, ◌++◌, Option, ap, subst, ◌∙◌}
use Rattle.c8_screen.specs.Points.{Points}
use Rattle.c8_terminal.specs.Picture.{Repaints}
use Rattle.c8_play.specs.declared.console.Console.{Ghosts}
use Rattle.c8_play.specs.declared.desk.Desk.{Desk}
use Rattle.c8_play.specs.Desk.{IsSameDesk, MayForget, HasShown}

pub forgets_more : {C : Type 0} (a b c : Desk C) → MayForget a b → MayForget b c → MayForget a c
forgets_more a b c (inl one) (inl two) = inl (two ∙ one)
forgets_more a b c (inl one) (inr two) = inr two
forgets_more a b c (inr one) (inl two) = inr (two ∙ one)
forgets_more a b c (inr one) (inr two) = inr two

module _ {C : Type 0} (console : Ghosts C) where
  pub same_chain : (a b c : Desk C) → IsSameDesk console a b → IsSameDesk console b c → IsSameDesk console a c
  same_chain a b c one two = record { typing_is = two.typing_is ∙ one.typing_is; seen = two.seen ∙ one.seen; drawn = two.drawn ∙ one.drawn }

  -- what is shown after calls that wrote nothing
  pub shown_from : (points : Points) (a b c : Desk C) → IsSameDesk console a b → HasShown console points b c → HasShown console points a c
  shown_from points a b c same (inl left) = inl left
  shown_from points a b c same (inr painted) = inr (record {
    painting = painted.painting;
    row = painted.row;
    repaints = subst (λ (known : Option Points). Repaints known painted.painting points) same.seen painted.repaints;
    drawn = painted.drawn ∙ ap (λ (bytes : List ℕ). bytes ++ (painted.painting ++ painted.row)) same.drawn;
    seen = painted.seen;
  })
