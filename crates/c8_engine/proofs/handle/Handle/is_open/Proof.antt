-- `is_open` reads the pointer, and leaves the handle as it was.
use Rattle.std.proofs.Common.{ℕ, true, false, List, [], ◌∷◌, refl, sym, ap, ◌∙◌, lit<}
use seplogic.Ra.Ura.{Ura}
use base.Fraction.{full_share}
use mir.Syntax.{named}
use mir.Raw.{raw as bare}
use mir.Val.{Val, vptr, vbool}
use base.Logic.{SProp, ent, emp, via, fst∗, id⊢, guard_i}
use base.Fml.{Lft, GName, Share, Fml, ftrue, flft}
use prog.Memory.{Memory}
use prog.Routine.{Routine}
use prog.Wp.{Calls, Loops, WpFn, Tables}
use types.Logic.{Logic, sem}
use contract.Monad.{Fun, fact_use}
use contract.Running.{tables, tables_of}
use sound.WpLaws.{WpFn-mono}
use types.Kit.{Item, ‵, ◌⊛◌, given, learn, ◌$◌, ◌∵◌, !, qed, move, keep, use1, join, split, rewrite, group, fsplit, fsplit3, feq_i}
use types.Kit.{suffices, frame, done}
use types.Part.{whole, sub, look_in}
use types.Run.{stop, fld, load, of_opd, lit, bin, un, returns, enter}
use types.ByLocal.{alloc_all, pass_all, free_all, look_at, get, through, sets}
use denote.RattleType.{owns}
use denote.Memory.{cell_at}
use denote.RawPtr.{Ptr, block_ptr, Testable, tests_null}
use denote.Ref.{MutBor, MutRef, mut_vals, mut_Tells}
use denote.Signature.{plain}
use denote.Steps.{nothing, opens, closes}
use denote.Triple.Clauses.{Clauses}
use denote.Triple.Entry.{on_entry}
use denote.Triple.Spec.{triple_of}
use denote.Triple.Table.{entered}
use denote.Triple.Walked.{says, Stays, stay_ref, walk_of, ends_at, walked, walk_Meets, Goes-ref}
use Rattle.std.specs.Prelude.{Option, None, is_some}
use Rattle.std.proofs.GlobalToken.{dealloc_token-Testable}
use Rattle.std.proofs.alloc.Calls.{token}
use Rattle.std.proofs.BoxSteps.Form.{τ, word}
use Rattle.std.proofs.BoxSteps.Steps.{box_out, box_in}
use Rattle.c8_engine.proofs.AsBox.{E, Hd, S, boxed, open_at, closed, null_word, handle_out, closed_in}
use Rattle.c8_engine.specs.contracts.handle.Handle.is_open as F
use Rattle.c8_engine.specs.contracts.handle.Handle.is_open.Key.{name as #self}
use Rattle.c8_engine.proofs.handle.Handle.is_open.Statement as stated
use Rattle.c8_engine.proofs.handle.Handle.is_open.Code as code

abbrev stayed : Stays (F.ended).signature.params (F.ended).kept
stayed = (stay_ref (0 ∷ []) tt (plain (λ _. Hd)), tt)

module _ {M : Type 1} {𝓤 : Ura M} (𝓛 : Logic 𝓤) (at_mem : Memory → SProp 𝓤) (run : Routine → Fun 𝓤) (κ : Lft) (q : Share) (rb ro : ℕ)
    (γ : GName) (h : Hd.Denot) where
  open 𝓛 use {H, A}

  abbrev held : Clauses 𝓤 F.ended
  held = F.clauses 𝓛 at_mem run

  abbrev self : MutBor Hd.Denot
  self = record { ref_ptr = (rb, ro); ghost_name = γ; now = h }

  abbrev bound : (walk_of 𝓛 F.ended stayed held).Ghost
  bound = (((κ, tt), (q, tt), tt, (self, tt), (vptr rb ro ∷ [], tt)), tt)

  abbrev Post : Val → SProp 𝓤
  Post = (walk_of 𝓛 F.ended stayed held).post bound

  module _ (C : Calls 𝓤 H) (Λ : Loops 𝓤 H) where
    walk : ent 𝓤 (on_entry 𝓛 F.signature (κ, tt) (q, tt) (self, tt) (vptr rb ro ∷ [], tt)) (WpFn 𝓤 H C Λ code.function (vptr rb ro ∷ []) Post)
    walk =
        let Cell : List Val → Item 𝓤 = λ us. ‵ (cell_at full_share Hd.mir us rb ro) in let a = h.alloc in
        qed 𝓛 ((‵ (flft κ q) ⊛ ‵ ftrue) ∷ ‵ (owns (MutRef (named 0) κ Hd ∷ []) (self, tt) (vptr rb ro ∷ [], tt)) ∷ []) ∵
        split ! $ move ! (2 ∷ []) $ fsplit ! $ keep ! (0 ∷ 2 ∷ []) $
        enter ! C Λ code.function (vptr rb ro ∷ []) _ $ alloc_all ! (λ l. pass_all ! refl ((tt, tt), tt) $
        fsplit3 ! $ move ! (1 ∷ 2 ∷ 3 ∷ []) $ opens ! tt Hd {h = h} rb ro (λ vs. move ! (1 ∷ []) $ handle_out ! h.at a h.value vs
        -- [the allocator; the word; the open borrow, in three entries; self's first part]
        (λ hv ep ev ws fa. rewrite ! 1 Cell ws refl $
        sets ! (of_opd ! (load ! (through ! refl (fld ! refl (stop !))) (look_in ! 1 (sub ! 0 refl (whole !))))) refl
        (tt, record { fits = lit< tt }) $
        sets ! (bin ! (get ! refl) (lit ! tt) tt) refl (tt, tt) $ sets ! (un ! (get ! refl) tt) refl (tt, tt) $
        closed_in ! a $ move ! (1 ∷ 0 ∷ []) $ closes ! tt Hd (closed a) (null_word hv ∷ []) rb ro $
        -- [two parts of self; the token; self's first part]
        returns ! (look_at ! 0 refl) $ free_all ! refl $ move ! (3 ∷ []) $
        suffices ! _ (ends_at 𝓛 F.ended stayed held bound (vbool false) false (closed a, tt) (tt, tt)) $
        says ! (
          sym (ap is_some ev),
          ap (λ (p : Ptr). record { at = p; alloc = a; value = None }) (sym ep)
              ∙ ap (λ (v : Option S.Denot). record { at = h.at; alloc = a; value = v }) (sym ev),
        ) $
        group ! 3 $ nothing ! $ move ! (1 ∷ 0 ∷ []) $ join ! $ nothing ! $ move ! (2 ∷ 0 ∷ []) $ join ! $ frame ! $ frame ! $
        feq_i ! (List Val) (vbool false ∷ []) (vbool false ∷ []) refl $ done !)
        (λ s ev. box_out E ! (boxed h.at a s) vs (λ b o hv e ws fa. rewrite ! 3 Cell ws refl $
        -- [the session; the token; the allocator; the word; the open borrow, in three entries; self's first part]
        let p = block_ptr b o in let K : Fml = token E.al a (bare (τ E)) p in
        move ! (1 ∷ []) $ use1 𝓛 (given (Testable p) (‵ K))
        (fact_use 𝓤 (Testable p) (dealloc_token-Testable 𝓛 a (bare (τ E)) p) (λ x. guard_i 𝓤 (Testable p) (sem 𝓛 K) x)) $ learn ! (λ t.
        sets ! (of_opd ! (load ! (through ! refl (fld ! refl (stop !))) (look_in ! 3 (sub ! 0 refl (whole !))))) refl (tt, tt) $
        sets ! (bin ! (get ! refl) (lit ! tt) (tests_null p t)) refl (tt, tt) $ sets ! (un ! (get ! refl) tt) refl (tt, tt) $
        move ! (1 ∷ 0 ∷ []) $ box_in E ! (boxed h.at a s) b o s e refl $ use1 𝓛 (‵ (Hd.own_val (open_at h.at a s) (word E hv b o ∷ []))) (id⊢ 𝓤 _) $
        move ! (1 ∷ 0 ∷ []) $ closes ! tt Hd (open_at h.at a s) (word E hv b o ∷ []) rb ro $
        returns ! (look_at ! 0 refl) $ free_all ! refl $ move ! (3 ∷ []) $
        suffices ! _ (ends_at 𝓛 F.ended stayed held bound (vbool true) true (open_at h.at a s, tt) (tt, tt)) $
        says ! (sym (ap is_some ev), ap (λ (v : Option S.Denot). record { at = h.at; alloc = a; value = v }) (sym ev)) $
        group ! 3 $ nothing ! $ move ! (1 ∷ 0 ∷ []) $ join ! $ nothing ! $ move ! (2 ∷ 0 ∷ []) $ join ! $ frame ! $ frame ! $
        feq_i ! (List Val) (vbool true ∷ []) (vbool true ∷ []) refl $ done !)))))

pub is_open_spec : {M : Type 1} → stated.statement M
unfolding tables_of
is_open_spec 𝓤 𝓛 𝓜 𝓡 wired =
    let 𝓣 : Tables 𝓤 𝓛.H = tables_of 𝓤 𝓛.H 𝓜 (tables 𝓤 𝓛.H 𝓜 𝓡 𝓡.env) in
    entered 𝓤 𝓛.H (triple_of 𝓛 F.signature (F.spec 𝓛 𝓜.mem 𝓡.returns)) 𝓣.C 𝓣.Λ #self code.function (code.unfolded 𝓤 𝓛.H 𝓜 𝓡 wired)
    (walk_Meets 𝓛 F.ended stayed (Goes-ref 𝓛 1 0 tt (plain (λ _. Hd)), tt) (F.clauses 𝓛 𝓜.mem 𝓡.returns) (WpFn 𝓤 𝓛.H 𝓣.C 𝓣.Λ code.function)
    (WpFn-mono 𝓤 𝓛.H 𝓛.laws 𝓣 code.function)
    (walked 𝓛 F.ended stayed (F.clauses 𝓛 𝓜.mem 𝓡.returns) (WpFn 𝓤 𝓛.H 𝓣.C 𝓣.Λ code.function) (λ κs. (mut_vals, tt))
    (λ κs. (mut_Tells (named 0) κs.0 Hd, tt))
    (λ κs qs bounds a g are. via 𝓤 _ (fst∗ 𝓤 _ (emp 𝓤))
    (walk 𝓛 𝓜.mem 𝓡.returns κs.0 qs.0 a.0.ref_ptr.0 a.0.ref_ptr.1 a.0.ghost_name a.0.now 𝓣.C 𝓣.Λ))))
