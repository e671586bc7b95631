-- Rows as words, written one after another.
use Rattle.std.proofs.Common.{◌≡◌, ℕ, suc, ◌+◌, ◌*◌, ◌<◌, ◌≤◌, List, [], ◌∷◌, ◌++◌, length, take, drop, get_or, sym, ap, ◌∙◌, append_assoc, arith}
use Rattle.std.proofs.Math.Seq.{take-suc}
use Rattle.std.proofs.lemmas.List.{append-nil, take_at, drop_at, drop-drop, take-append-drop, length-append}
use Rattle.std.proofs.lemmas.Slice.{take-put_mid, drop-put_mid}
use borrow.Rule.Slice.PartMut.{put_mid}
use Rattle.c8_game.specs.declared.row.Row.{Row}
use Rattle.c8_engine.specs.Calls.{words_of_row, words_of}

words_more : (rows : List Row) (row : Row) → words_of (rows ++ row ∷ []) ≡ words_of rows ++ words_of_row row
words_more [] row = append-nil (words_of_row row)
words_more (r ∷ rows) row = ap (λ (rest : List ℕ). words_of_row r ++ rest) (words_more rows row)
    ∙ sym (append_assoc (words_of_row r) (words_of rows) (words_of_row row))

pub words_next : (rows : List Row) (p : ℕ) (d : Row) → p < length rows
    → words_of (take (p + 1) rows) ≡ words_of (take p rows) ++ words_of_row (get_or rows p d)
words_next rows p d within =
    let more : p + 1 ≡ suc p = omega arith in
    ap (λ (n : ℕ). words_of (take n rows)) more ∙ ap words_of (take-suc rows p d within) ∙ words_more (take p rows) (get_or rows p d)

pub long_next : (rows : List Row) (p : ℕ) (d : Row) → p < length rows → length (words_of (take p rows)) ≡ 4 * p
    → length (words_of_row (get_or rows p d)) ≡ 4 → length (words_of (take (p + 1) rows)) ≡ 4 * (p + 1)
long_next rows p d within long four =
    let all : length (words_of (take (p + 1) rows)) ≡ length (words_of (take p rows)) + length (words_of_row (get_or rows p d)) =
    ap (λ (words : List ℕ). length words) (words_next rows p d within) ∙ length-append (words_of (take p rows)) (words_of_row (get_or rows p d)) in
    omega (arith, all, long, four)

-- after p rows were written over the front of the words, one more is
pub written : (words first new : List ℕ) (rows : List Row) (p k : ℕ) (d : Row) → p < length rows → 4 * length rows ≤ length first → k ≡ 4
    → length words ≡ length first
    → length (words_of (take p rows)) ≡ 4 * p → words ≡ words_of (take p rows) ++ drop (4 * p) first → new ≡ words_of_row (get_or rows p d)
    → length (words_of_row (get_or rows p d)) ≡ 4
    → put_mid (4 * p) k words new ≡ words_of (take (p + 1) rows) ++ drop (4 * (p + 1)) first
written words first new rows p k d within room four same long is new_is row_long =
    let front : List ℕ = words_of (take p rows) in
    let n : ℕ = 4 * p + 4 in
    let put : List ℕ = put_mid (4 * p) k words new in
    let new_long : length new ≡ 4 = ap (λ (ws : List ℕ). length ws) new_is ∙ row_long in
    let fits : 4 * p ≤ length words = omega (arith, within, room, same) in
    let past : 4 * p + k ≤ n = omega (arith, four) in
    let end : n ≡ 4 * p + length new = omega (arith, new_long) in
    let exact : length new ≡ k = omega (arith, new_long, four) in
    let next : n ≡ 4 * (p + 1) = omega arith in
    let head : take n put ≡ take (4 * p) words ++ new = take-put_mid (4 * p) k words new n end fits in
    let tail : drop n put ≡ drop n words = drop-put_mid (4 * p) k words new n past fits exact in
    let kept : take (4 * p) words ≡ front = ap (take (4 * p)) is ∙ take_at front (drop (4 * p) first) (4 * p) long in
    let rest : drop (4 * p) words ≡ drop (4 * p) first = ap (drop (4 * p)) is ∙ drop_at front (drop (4 * p) first) (4 * p) long in
    let after : drop n words ≡ drop n first = sym (drop-drop 4 (4 * p) words) ∙ ap (drop 4) rest ∙ drop-drop 4 (4 * p) first in
    sym (take-append-drop n put)
    ∙ ap (λ (ws : List ℕ). ws ++ drop n put) (head ∙ ap (λ (ws : List ℕ). ws ++ new) kept ∙ ap (λ (ws : List ℕ). front ++ ws) new_is
    ∙ sym (words_next rows p d within))
    ∙ ap (λ (ws : List ℕ). words_of (take (p + 1) rows) ++ ws) (tail ∙ after ∙ ap (λ (m : ℕ). drop m first) next)
