-- Idle rows are the beginning of more idle rows.
use Rattle.std.proofs.Common.{◌≡◌, ℕ, ◌-◌, ◌≤◌, List, ◌++◌, sym, ap, ◌∙◌, arith}
use Rattle.std.proofs.lemmas.List.{replicate-append-replicate}
use Rattle.c8_game.specs.declared.row.Row.{Row}
use Rattle.c8_live.specs.Tokens.{Begins}
use Rattle.c8_thread_tests.specs.Idle.{idle, idle_rows}

pub idle_begins : (rows : List Row) (n count : ℕ) → rows ≡ idle_rows n → n ≤ count → Begins rows (idle_rows count)
idle_begins rows n count is few = record {
  rest = idle_rows (count - n);
  is = ap idle_rows (omega arith) ∙ sym (replicate-append-replicate n (count - n) idle) ∙ ap (λ (l : List Row). l ++ idle_rows (count - n)) (sym is);
}
