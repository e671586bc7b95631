-- `session` lends the value at its own type, and the handle follows it.
use mathlib.Core.Path.{◌≡◌, refl, sym, subst}
use Prim.Native.Nat.{ℕ}
use mathlib.Core.List.{List, [], ◌∷◌}
use lib.Dec.{T}
use seplogic.Ra.Ura.{Ura}
use base.Fraction.{full_share}
use mir.Syntax.{named, Body, place, copy, assign, rv_opd, seq, return}
use mir.Raw.{raw as bare}
use mir.Val.{Val, vptr}
use base.Logic.{SProp, ent, sep, id⊢}
use base.Fml.{Lft, GName, Share, Fml, ftrue, flft, fsep}
use prog.Memory.{Memory}
use prog.Routine.{Routine}
use prog.Wp.{Env, Calls, Loops, WpFn, Tables}
use types.Logic.{Logic, sem}
use contract.Monad.{Fun}
use contract.Running.{tables, tables_of}
use sound.WpLaws.{WpFn-mono}
use types.Kit.{‵, raw, ◌⊛◌, some, later, at_ret, ◌$◌, ◌∵◌, !, qed, by, move, keep, drop, use1, join, split, pick, rewrite, group, fsplit}
use types.Kit.{fsplit3, fjoin, fpack, suffices, frame, await, done}
use types.Part.{whole, sub, look_in}
use types.Run.{stop, fld, addr, load, of_opd, first, blocks, exec, returns, enter}
use types.ByLocal.{alloc_all, pass_all, free_all, look_at, get, through, sets, sets_last, env}
use denote.RattleType.{RattleType, owns}
use denote.Exit.{no}
use denote.Memory.{part_at, part_of, raw_all, mem, cell_at}
use denote.Param.{param}
use denote.Param.Laws.{Laws}
use denote.RawPtr.{block_ptr}
use denote.Ref.{MutBor, MutRef, mut_vals, mut_Tells}
use denote.Signature.{plain, mut_ref_to}
use denote.Steps.{nothing, opens}
use denote.Follow.{follows, Part, lends_Part}
use denote.Triple.Clauses.{Clauses}
use denote.Triple.Entry.{on_entry}
use denote.Triple.Spec.{triple_of}
use denote.Triple.Table.{entered}
use denote.Triple.Walked.{says, needs, Stays, stay_dropped, walk_of, ends_at, walked, walk_Meets, Goes-spent_ref}
use Rattle.std.proofs.alloc.Calls.{token}
use Rattle.std.proofs.BoxSteps.Form.{τ, word, handle}
use Rattle.std.proofs.BoxSteps.Steps.{box_out, box_in}
use Rattle.std.specs.Prelude.{Some, IsSome}
use Rattle.c8_engine.specs.Held.Lent.{with_session}
use Rattle.c8_engine.proofs.AsBox.{E, session_laws, Hd, S, boxed, handle_out}
use Rattle.c8_engine.specs.contracts.handle.Handle.session as F
use Rattle.c8_engine.specs.contracts.handle.Handle.session.Key.{name as #self}
use Rattle.c8_engine.proofs.handle.Handle.session.Statement as stated
use Rattle.c8_engine.proofs.handle.Handle.session.Code as code

abbrev stayed : Stays (F.ended).signature.params (F.ended).kept
stayed = (stay_dropped (mut_ref_to (0 ∷ []) tt (plain (λ _. Hd))) no, tt)

abbrev rest : Body
rest = seq (assign (place 0 []) (rv_opd (copy (place 2 [])))) return

as_param : (R : RattleType) → Laws R → (x : R.Denot) (b o : ℕ) → part_at R full_share x b o ≡ part_at (param 0 R) full_share x b o
as_param R L x b o j = part_of (raw_all (L.one j)) R.own_val full_share x b o

module _ {M : Type 1} {𝓤 : Ura M} (𝓛 : Logic 𝓤) (at_mem : Memory → SProp 𝓤) (run : Routine → Fun 𝓤) (κ : Lft) (q : Share) (rb ro : ℕ)
    (γ : GName) (h : Hd.Denot) (is : IsSome h.value) where
  open 𝓛 use {H, A}

  abbrev held : Clauses 𝓤 F.ended
  held = F.clauses 𝓛 at_mem run

  abbrev self : MutBor Hd.Denot
  self = record { ref_ptr = (rb, ro); ghost_name = γ; now = h }

  abbrev bound : (walk_of 𝓛 F.ended stayed held).Ghost
  bound = (((κ, tt), (q, tt), tt, (self, tt), (vptr rb ro ∷ [], tt)), tt)

  abbrev Post : Val → SProp 𝓤
  Post = (walk_of 𝓛 F.ended stayed held).post bound

  module _ (s : S.Denot) (b o : ℕ) (hv : Val) where
    -- all of the handle but its session
    abbrev Rest : Fml
    Rest = fsep (fsep (token E.al h.alloc (bare (τ E)) (block_ptr b o)) (handle E h.alloc hv)) (cell_at full_share Hd.mir (word E hv b o ∷ []) rb ro)

    back : h.at ≡ block_ptr b o → (w : S.Denot)
        → ent 𝓤 (sep 𝓤 (sem 𝓛 ((mem S).own_at w b o)) (sem 𝓛 Rest)) (sem 𝓛 ((mem Hd).own_at (with_session h w) rb ro))
    unfolding part_of
    back e w =
        qed 𝓛 (‵ (part_at S full_share w b o) ∷ ‵ Rest ∷ []) ∵ rewrite ! 0 (λ (P : Fml). ‵ P) (as_param S session_laws w b o) refl $
        move ! (1 ∷ []) $ fsplit ! $ fsplit ! $ move ! (3 ∷ []) $ box_in E ! (boxed h.at h.alloc w) b o w e refl $
        use1 𝓛 (‵ (Hd.own_val (with_session h w) (word E hv b o ∷ []))) (id⊢ 𝓤 _) $ move ! (1 ∷ 0 ∷ []) $ fjoin ! $
        fpack ! (List Val) (λ us. fsep (cell_at full_share Hd.mir us rb ro) (Hd.own_val (with_session h w) us)) (word E hv b o ∷ []) $ done !

    exits : h.value ≡ Some s → (γ' : GName)
        → ent 𝓤 (sep 𝓤 (sem 𝓛 ((MutRef (named 0) κ S).own_val (record { ref_ptr = (b, o); ghost_name = γ'; now = s }) (vptr b o ∷ [])))
        (sep 𝓤 (A.lft κ q) (sem 𝓛 (follows Hd S γ γ' (with_session h))))) (Post (vptr b o))
    exits ev γ' =
        qed 𝓛 (‵ ((MutRef (named 0) κ S).own_val (record { ref_ptr = (b, o); ghost_name = γ'; now = s }) (vptr b o ∷ [])) ∷ ‵ (flft κ q) ∷ ‵
        (follows Hd S γ γ' (with_session h)) ∷ []) ∵
        suffices ! _ (ends_at 𝓛 F.ended stayed held bound (vptr b o) (record { ref_ptr = (b, o); ghost_name = γ'; now = s }) (tt, tt) (tt, tt)) $
        nothing ! $ nothing ! $ fjoin ! $ join ! $ nothing ! $ move ! (2 ∷ 0 ∷ []) $ join ! $ join ! $ frame ! $ says ! ev $ done !

  module _ (C : Calls 𝓤 H) (Λ : Loops 𝓤 H) where
    walk : ent 𝓤 (on_entry 𝓛 F.signature (κ, tt) (q, tt) (self, tt) (vptr rb ro ∷ [], tt)) (WpFn 𝓤 H C Λ code.function (vptr rb ro ∷ []) Post)
    walk =
        qed 𝓛 ((‵ (flft κ q) ⊛ ‵ ftrue) ∷ ‵ (owns (MutRef (named 0) κ Hd ∷ []) (self, tt) (vptr rb ro ∷ [], tt)) ∷ []) ∵
        enter ! C Λ code.function (vptr rb ro ∷ []) _ $
        alloc_all ! (λ l. pass_all ! refl ((tt, tt), tt) $
        let En : Env 𝓤 H = env code.function.locals l in
        move ! (1 ∷ []) $ fsplit ! $ fsplit3 ! $ drop ! $ move ! (3 ∷ []) $ split ! $ move ! (2 ∷ 3 ∷ 0 ∷ []) $
        opens ! tt Hd {h = h} rb ro (λ vs. move ! (1 ∷ []) $ handle_out ! h.at h.alloc h.value vs
        (λ hv ep ev ws fa. absurd (subst T (sym (subst IsSome ev is)) tt))
        (λ s ev. box_out E ! (boxed h.at h.alloc s) vs (λ b o hv e ws fa.
        rewrite ! 3 (λ (us : List Val). ‵ (cell_at full_share Hd.mir us rb ro)) ws refl $
        -- [the session; the token; the allocator; the word; the open borrow, in three entries]
        first ! $ blocks ! $
        sets ! (of_opd ! (load ! (through ! refl (fld ! refl (stop !))) (look_in ! 3 (sub ! 0 refl (whole !))))) refl (tt, tt) $
        sets ! (of_opd ! (get ! refl)) refl (tt, tt) $
        sets_last ! (addr ! (through ! refl (stop !))) refl (tt, tt) $
        exec ! C Λ En rest (at_ret En Post) $
        sets ! (of_opd ! (get ! refl)) refl (tt, tt) $
        rewrite ! 0 (λ (P : Fml). ‵ P) (sym (as_param S session_laws s b o)) refl $
        move ! (1 ∷ 2 ∷ []) $ fjoin ! $ move ! (0 ∷ 2 ∷ []) $ fjoin ! $ move ! (2 ∷ 3 ∷ 4 ∷ 1 ∷ 0 ∷ []) $ group ! 5 $
        use1 𝓛 (later (types.Kit.some (λ (γ' : GName). raw
        (Part 𝓛 Hd S (with_session h) (named 0) κ q rb ro b o γ (sem 𝓛 (Rest s b o hv)) (back s b o hv e) s γ'))))
        (lends_Part 𝓛 Hd S (with_session h) (named 0) κ q rb ro b o γ (sem 𝓛 (Rest s b o hv)) (back s b o hv e) (Hd.coded.code h)
        (Hd.coded.code h) s) $ await ! tt $ pick ! (λ γ'.
        returns ! (look_at ! 0 refl) $ free_all ! refl $
        keep ! (0 ∷ []) $ by ! (exits s b o hv ev γ'))))))

pub session_spec : {M : Type 1} → stated.statement M
unfolding tables_of
session_spec 𝓤 𝓛 𝓜 𝓡 wired =
    let 𝓣 : Tables 𝓤 𝓛.H = tables_of 𝓤 𝓛.H 𝓜 (tables 𝓤 𝓛.H 𝓜 𝓡 𝓡.env) in
    entered 𝓤 𝓛.H (triple_of 𝓛 F.signature (F.spec 𝓛 𝓜.mem 𝓡.returns)) 𝓣.C 𝓣.Λ #self code.function (code.unfolded 𝓤 𝓛.H 𝓜 𝓡 wired)
    (walk_Meets 𝓛 F.ended stayed (Goes-spent_ref 𝓛 1 (0 ∷ []) tt (plain (λ _. Hd)), tt) (F.clauses 𝓛 𝓜.mem 𝓡.returns)
    (WpFn 𝓤 𝓛.H 𝓣.C 𝓣.Λ code.function) (WpFn-mono 𝓤 𝓛.H 𝓛.laws 𝓣 code.function)
    (walked 𝓛 F.ended stayed (F.clauses 𝓛 𝓜.mem 𝓡.returns) (WpFn 𝓤 𝓛.H 𝓣.C 𝓣.Λ code.function) (λ κs. (mut_vals, tt))
    (λ κs. (mut_Tells (named 0) κs.0 Hd, tt))
    (λ κs qs bounds a g are. needs 𝓤 (IsSome a.0.now.value) _
    (λ is. walk 𝓛 𝓜.mem 𝓡.returns κs.0 qs.0 a.0.ref_ptr.0 a.0.ref_ptr.1 a.0.ghost_name a.0.now is 𝓣.C 𝓣.Λ))))
