-- What a terminal does with the bytes of a move and of a cell.
use Rattle.std.proofs.Common.{◌≡◌, ℕ, zero, suc, ◌+◌, ◌<◌, Bool, true, false, List, [], ◌∷◌, ◌++◌, refl, sym, subst, arith}
use Rattle.c8_terminal.specs.Terminal.{Mode, Ready, Terminal, printed, after_byte, after}
use Rattle.c8_terminal.specs.Picture.{character}
use Rattle.c8_terminal.specs.Painting.{cell, move}

-- bytes after bytes
pub after-append : (a b : List ℕ) (t : Terminal) → after (a ++ b) t ≡ after b (after a t)
unfolding after
after-append [] b t = refl
after-append (x ∷ a) b t = after-append a b (after_byte t.mode x t)

-- a terminal that is ready, with its cursor there
abbrev pub ready : ℕ → ℕ → (ℕ → ℕ → ℕ) → Terminal
ready row column cells = record { mode = Ready; row = row; column = column; cells = cells }

move_from : (y row column : ℕ) (cells : ℕ → ℕ → ℕ) → y < 16 → after (move (y + 1)) (ready row column cells) ≡ ready (y + 1) 1 cells
unfolding after
move_from zero row column cells within = refl
move_from (suc zero) row column cells within = refl
move_from (suc (suc zero)) row column cells within = refl
move_from (suc (suc (suc zero))) row column cells within = refl
move_from (suc (suc (suc (suc zero)))) row column cells within = refl
move_from (suc (suc (suc (suc (suc zero))))) row column cells within = refl
move_from (suc (suc (suc (suc (suc (suc zero)))))) row column cells within = refl
move_from (suc (suc (suc (suc (suc (suc (suc zero))))))) row column cells within = refl
move_from (suc (suc (suc (suc (suc (suc (suc (suc zero)))))))) row column cells within = refl
move_from (suc (suc (suc (suc (suc (suc (suc (suc (suc zero))))))))) row column cells within = refl
move_from (suc (suc (suc (suc (suc (suc (suc (suc (suc (suc zero)))))))))) row column cells within = refl
move_from (suc (suc (suc (suc (suc (suc (suc (suc (suc (suc (suc zero))))))))))) row column cells within = refl
move_from (suc (suc (suc (suc (suc (suc (suc (suc (suc (suc (suc (suc zero)))))))))))) row column cells within = refl
move_from (suc (suc (suc (suc (suc (suc (suc (suc (suc (suc (suc (suc (suc zero))))))))))))) row column cells within = refl
move_from (suc (suc (suc (suc (suc (suc (suc (suc (suc (suc (suc (suc (suc (suc zero)))))))))))))) row column cells within = refl
move_from (suc (suc (suc (suc (suc (suc (suc (suc (suc (suc (suc (suc (suc (suc (suc zero))))))))))))))) row column cells within = refl
move_from (suc (suc (suc (suc (suc (suc (suc (suc (suc (suc (suc (suc (suc (suc (suc (suc y)))))))))))))))) row column cells within =
    absurd (omega (arith, within))

cell_from : (upper lower : Bool) (row column : ℕ) (cells : ℕ → ℕ → ℕ)
    → after (cell upper lower) (ready row column cells) ≡ printed (character upper lower) (ready row column cells)
unfolding after
cell_from false false row column cells = refl
cell_from true false row column cells = refl
cell_from false true row column cells = refl
cell_from true true row column cells = refl

abbrev in_mode : Mode → Terminal → Terminal
in_mode mode t = record { mode = mode; row = t.row; column = t.column; cells = t.cells }

pub after-move : (y : ℕ) (t : Terminal) → y < 16 → t.mode ≡ Ready → after (move (y + 1)) t ≡ ready (y + 1) 1 t.cells
after-move y t within is = subst (λ (m : Mode). after (move (y + 1)) (in_mode m t) ≡ ready (y + 1) 1 t.cells) (sym is)
    (move_from y t.row t.column t.cells within)

pub after-cell : (upper lower : Bool) (t : Terminal) → t.mode ≡ Ready → after (cell upper lower) t ≡ printed (character upper lower) t
after-cell upper lower t is =
    subst (λ (m : Mode). after (cell upper lower) (in_mode m t) ≡ printed (character upper lower) t) (sym is)
    (cell_from upper lower t.row t.column t.cells)
