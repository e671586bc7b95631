-- `into_parts` reads the pointer, and hands on what an open handle owns.
use Rattle.std.proofs.Common.{List, [], ◌∷◌, ◌++◌, refl, sym, subst, lit<}
use seplogic.Ra.Ura.{Ura}
use mir.Raw.{raw as bare}
use mir.Val.{Val, vcons, vnil}
use base.Logic.{SProp, ent, emp, id⊢, guard_i}
use base.Fml.{Fml, ftrue, fsep}
use prog.Memory.{Memory}
use prog.Routine.{Routine}
use prog.Wp.{Env, WpFn, Tables}
use types.Logic.{Logic, sem}
use contract.Monad.{Fun, fact_use}
use contract.Running.{tables, tables_of}
use sound.WpLaws.{WpFn-mono}
use types.Kit.{Item, ‵, raw, ◌⊛◌, given, learn, at_ret, ◌$◌, ◌∵◌, !, qed, by, move, keep, drop, use0, use1, join, split, fsplit, fjoin}
use types.Kit.{suffices, done}
use types.Part.{whole, sub, agg}
use types.Run.{stop, fld, lit, bin, no_more, and_then, of_opd, first, branches, exec, returns, enter}
use types.ByLocal.{alloc_all, pass_all, free_all, look_at, get, get_in, sets, sets_last, env}
use types.Match.{live}
use denote.RattleType.{RattleType}
use denote.Exit.{yes}
use denote.RawPtr.{block_ptr, Testable, tests_null}
use denote.Signature.{type_at}
use denote.Steps.{nothing}
use denote.Triple.Clauses.{Clauses}
use denote.Triple.Spec.{triple_of}
use denote.Triple.Table.{entered}
use denote.Triple.Walked.{says, Stays, stay_dropped, walk_of, ends_at, Goes-dropped, walk_Meets}
use Rattle.std.specs.Prelude.{None, Some}
use Rattle.std.proofs.GlobalToken.{dealloc_token-Testable}
use Rattle.std.proofs.ResultValues.{and_tt}
use Rattle.std.proofs.alloc.Calls.{token}
use Rattle.std.proofs.option.Made.{Some-of, none_of}
use Rattle.std.proofs.BoxSteps.Form.{τ, word, handle, box_typed}
use Rattle.std.proofs.BoxSteps.Steps.{box_out, box_in}
use Rattle.c8_engine.proofs.AsBox.{E, Pt, FromHandle as From, boxed, null_word, null_typed, handle_out}
use Rattle.c8_engine.specs.contracts.handle.Handle.into_parts as F
use Rattle.c8_engine.specs.contracts.handle.Handle.into_parts.Key.{name as #self}
use Rattle.c8_engine.proofs.handle.Handle.into_parts.Statement as stated
use Rattle.c8_engine.proofs.handle.Handle.into_parts.Code as code

abbrev stayed : Stays (F.ended).signature.params (F.ended).kept
stayed = (stay_dropped From yes, tt)

abbrev Out : RattleType
Out = type_at (F.signature).result tt

module _ {M : Type 1} {𝓤 : Ura M} (𝓛 : Logic 𝓤) (at_mem : Memory → SProp 𝓤) (run : Routine → Fun 𝓤) (𝓣 : Tables 𝓤 𝓛.H) where
  open 𝓛 use {H}

  abbrev held : Clauses 𝓤 F.ended
  held = F.clauses 𝓛 at_mem run

  walk : (z : (walk_of 𝓛 F.ended stayed held).Ghost)
      → ent 𝓤 ((walk_of 𝓛 F.ended stayed held).pre z) (WpFn 𝓤 H 𝓣.C 𝓣.Λ code.function (z.0.4.0 ++ []) ((walk_of 𝓛 F.ended stayed held).post z))
  walk z =
      let Post = (walk_of 𝓛 F.ended stayed held).post z in let h = z.0.3.0 in let a = h.alloc in let vs = z.0.4.0 in
      let goes : (Γ : List (Item 𝓤)) → List Val → Type 1 = λ Γ us. ent 𝓤 (types.Kit.⋆ 𝓛 Γ) (WpFn 𝓤 H 𝓣.C 𝓣.Λ code.function (us ++ []) Post) in
      qed 𝓛 ((‵ ftrue ⊛ ‵ (fsep ((type_at From tt).own_val h vs) ftrue)) ∷ raw (emp 𝓤) ∷ []) ∵ split ! $ drop ! $ fsplit ! $ handle_out !
      h.at a h.value vs
      (λ hv ep ev ws fa. move ! (1 ∷ 2 ∷ []) $ drop ! $ drop ! $
      let Γ : List (Item 𝓤) = ‵ (handle E a hv) ∷ [] in
      by ! (subst (goes Γ) (sym ws) (qed 𝓛 Γ ∵ enter ! 𝓣.C 𝓣.Λ code.function (null_word hv ∷ []) _ $ alloc_all !
      (λ ls. pass_all ! refl (null_typed hv fa, tt) $
      let En : Env 𝓤 H = env code.function.locals ls in
      sets ! (of_opd ! (get_in ! (fld ! refl (stop !)) (sub ! 0 refl (whole !)))) refl (tt, record { fits = lit< tt }) $ sets !
      (of_opd ! (get_in ! (fld ! refl (stop !)) (sub ! 1 refl (whole !)))) refl fa $
      sets ! (bin ! (get ! refl) (lit ! tt) tt) refl (tt, tt) $ first ! $ branches ! (get ! refl)
      (λ _. sets_last ! (agg ! (and_then ! (lit ! tt) (no_more !))) refl (tt, (record { fits = lit< tt }, tt)) $ exec ! 𝓣.C 𝓣.Λ En
      code.Mir.t-5 (at_ret En Post) $
      sets ! (of_opd ! (get ! refl)) refl (tt, (record { fits = lit< tt }, tt)) $ use0 𝓛 (‵ (Out.own_val None (live 0 vnil ∷ []))) (none_of 𝓛 Pt) $
      returns ! (look_at ! 0 refl) $ free_all ! refl $ keep ! (0 ∷ []) $
      suffices ! _ (ends_at 𝓛 F.ended stayed held z (live 0 vnil) None (tt, tt) (tt, tt)) $ says ! ev $ nothing ! $ nothing ! $ fjoin ! $
      join ! $ nothing ! $ join ! $ done !)
      (λ wrong. absurd wrong)))))
      (λ s ev. box_out E ! (boxed h.at a s) vs (λ b o hv e ws fa.
      let p = block_ptr b o in let K : Fml = token E.al a (bare (τ E)) p in let w = word E hv b o in let typed = box_typed E hv b o fa in
      let made : Pt.Denot = record { at = h.at; alloc = a; value = s } in let v₁ : Val = live 1 (vcons w vnil) in
      move ! (1 ∷ []) $ use1 𝓛 (given (Testable p) (‵ K))
      (fact_use 𝓤 (Testable p) (dealloc_token-Testable 𝓛 a (bare (τ E)) p) (λ x. guard_i 𝓤 (Testable p) (sem 𝓛 K) x)) $ learn ! (λ t.
      move ! (1 ∷ 0 ∷ []) $ box_in E ! (boxed h.at a s) b o s e refl $ use1 𝓛 (‵ (Pt.own_val made (w ∷ []))) (id⊢ 𝓤 _) $ move ! (1 ∷ 2 ∷ [])
      $ drop ! $ drop ! $
      let Γ : List (Item 𝓤) = ‵ (Pt.own_val made (w ∷ [])) ∷ [] in
      by ! (subst (goes Γ) (sym ws) (qed 𝓛 Γ ∵ enter ! 𝓣.C 𝓣.Λ code.function (w ∷ []) _ $ alloc_all ! (λ ls. pass_all ! refl (typed, tt) $
      let En : Env 𝓤 H = env code.function.locals ls in
      sets ! (of_opd ! (get_in ! (fld ! refl (stop !)) (sub ! 0 refl (whole !)))) refl (tt, tt) $ sets !
      (of_opd ! (get_in ! (fld ! refl (stop !)) (sub ! 1 refl (whole !)))) refl fa $
      sets ! (bin ! (get ! refl) (lit ! tt) (tests_null p t)) refl (tt, tt) $ first ! $ branches ! (get ! refl)
      (λ wrong. absurd wrong)
      (λ _. sets ! (of_opd ! (get ! refl)) refl (tt, tt) $ sets ! (agg ! (and_then ! (get ! refl) (and_then ! (get ! refl) (no_more !)))) refl typed $
      sets_last ! (agg ! (and_then ! (lit ! tt) (and_then ! (get ! refl) (no_more !)))) refl
      (and_tt _ typed.0, (record { fits = lit< tt }, (typed.1, tt))) $
      exec ! 𝓣.C 𝓣.Λ En code.Mir.t-5 (at_ret En Post) $ sets ! (of_opd ! (get ! refl)) refl
      (and_tt _ typed.0, (record { fits = lit< tt }, (typed.1, tt))) $
      use1 𝓛 (‵ (Out.own_val (Some made) (v₁ ∷ []))) (Some-of 𝓛 Pt made w) $
      returns ! (look_at ! 0 refl) $ free_all ! refl $
      suffices ! _ (ends_at 𝓛 F.ended stayed held z v₁ (Some made) (tt, tt) (tt, tt)) $ says ! ev $ nothing ! $ nothing ! $ fjoin ! $ join !
      $ nothing ! $ join ! $ done !)))))))

pub into_parts_spec : {M : Type 1} → stated.statement M
unfolding tables_of
into_parts_spec 𝓤 𝓛 𝓜 𝓡 wired =
    let 𝓣 : Tables 𝓤 𝓛.H = tables_of 𝓤 𝓛.H 𝓜 (tables 𝓤 𝓛.H 𝓜 𝓡 𝓡.env) in
    entered 𝓤 𝓛.H (triple_of 𝓛 F.signature (F.spec 𝓛 𝓜.mem 𝓡.returns)) 𝓣.C 𝓣.Λ #self code.function (code.unfolded 𝓤 𝓛.H 𝓜 𝓡 wired)
    (walk_Meets 𝓛 F.ended stayed (Goes-dropped 𝓛 0 From yes (λ κs x f. refl), tt) (F.clauses 𝓛 𝓜.mem 𝓡.returns)
    (WpFn 𝓤 𝓛.H 𝓣.C 𝓣.Λ code.function) (WpFn-mono 𝓤 𝓛.H 𝓛.laws 𝓣 code.function)
    (walk 𝓛 𝓜.mem 𝓡.returns 𝓣))
