-- An open handle and its parts own what a `Box<AnyEndpoint>` of the C library's heap owns, and a closed one the allocator alone.
use Rattle.std.proofs.Common.{◌≡◌, List, [], ◌∷◌, ◌++◌, refl, subst, lit<}
use lib.Dec.{T}
use seplogic.Ra.Ura.{Ura}
use mir.Syntax.{impl, tnil, dnil}
use mir.Val.{Val, vnull, vstruct, vcons, vnil, of_list, has_ty, WT}
use base.Logic.{id⊢}
use types.Logic.{Logic}
use types.Kit.{Item, Goal, Seq, Step, step, ‵, ◌$◌, use1, move, drop, fsplit, fjoin, fpick, fpack, feq_i, feq_l}
use denote.RattleType.{RattleType, Valss}
use denote.Builtin.{RawPtr}
use denote.RawPtr.{Ptr, null_ptr, ptr_val}
use denote.Signature.{Slot, plain}
use denote.Param.Laws.{Laws}
use denote.Steps.{nothing}
use denote.Struct.Struct.{within}
use denote.Struct.Owning.{shape}
use Rattle.std.specs.Prelude.{Option, None, Some}
use Rattle.std.specs.Global.{Global}
use Rattle.std.proofs.alloc.Calls.{α, Fits, handle_tells}
use Rattle.std.proofs.ResultValues.{and_tt}
use Rattle.std.proofs.BoxSteps.Form.{Bx, D, B, P, box_ty, handle, owning}
use Rattle.std.specs.contracts.alloc.Global as Heap
use Rattle.std.specs.contracts.impls.GlobalAllocator.TheImpl.{ghosts, dict}
use Rattle.std.proofs.alloc.Global.TheLaws as heap
use Rattle.c8_embed.specs.contracts.endpoint.Endpoint as Endpoint
use Rattle.c8_embed.specs.contracts.watch.WatchEndpoint as WatchEndpoint
use Rattle.c8_embed.proofs.any.Side.TheLaws as any
use Rattle.c8_embed.proofs.endpoint.Endpoint.TheLaws as endpoint
use Rattle.c8_embed.proofs.watch.WatchEndpoint.TheLaws as watch
use Rattle.c8_engine.specs.Held.{session_row}
use Rattle.c8_engine.specs.contracts.parts.Parts as Parts
use Rattle.c8_engine.specs.contracts.handle.Handle as Handle

abbrev pub session_laws : Laws session_row
session_laws = any.the_row_laws Endpoint.the_row WatchEndpoint.the_row endpoint.the_row_laws watch.the_row_laws

abbrev pub E : Bx
E = record {
  row = session_row;
  laws = session_laws;
  al = record { row = Heap.the_row; laws = heap.the_row_laws; g = ghosts; d = dict; drops = impl [] tnil dnil };
}

abbrev pub Hd : RattleType
Hd = Handle.the_row

abbrev pub S : RattleType
S = session_row

abbrev pub Pt : RattleType
Pt = Parts.the_row session_row Heap.the_row ghosts

abbrev pub FromParts : Slot 0
FromParts = plain (λ _. Pt)

abbrev pub FromHandle : Slot 0
FromHandle = plain (λ _. Hd)

-- the handle that has the session s at p, and the closed one
abbrev pub open_at : Ptr → Global → S.Denot → Hd.Denot
open_at p a s = record { at = p; alloc = a; value = Some s }

abbrev pub closed : Global → Hd.Denot
closed a = record { at = null_ptr; alloc = a; value = None }

abbrev pub boxed : Ptr → Global → S.Denot → D E
boxed p a s = record { ptr = p; alloc = a; value = s }

abbrev pub null_word : Val → Val
null_word hv = vstruct (vcons vnull (vcons hv vnil))

pub null_typed : (hv : Val) → Fits E.al hv → T (has_ty (box_ty E) (null_word hv)) × WT (null_word hv)
null_typed hv fa = (and_tt (has_ty (α E.al) hv) fa.0, (record { fits = lit< tt }, (fa.1, tt)))

module _ {M : Type 1} {𝓤 : Ura M} {𝓛 : Logic 𝓤} {K : Type 0} {Γ : List (Item 𝓤)} {G : Goal 𝓤 𝓛.H} where
  -- a handle is closed, or a box
  pub handle_out : K → (p : Ptr) (a : Global) (v : Option S.Denot) (vs : List Val)
      → ((hv : Val) → p ≡ null_ptr → v ≡ None → vs ≡ null_word hv ∷ [] → Fits E.al hv → Seq K 𝓛 (‵ (handle E a hv) ∷ Γ) G)
      → ((s : S.Denot) → v ≡ Some s → Seq K 𝓛 (‵ ((B E).own_val (boxed p a s) vs) ∷ Γ) G)
      → Seq K 𝓛 (‵ (Hd.own_val (record { at = p; alloc = a; value = v }) vs) ∷ Γ) G
  handle_out t p a None vs none some =
      fsplit t $ fpick t (λ vss. fsplit t $ feq_l t
      (λ ev. fsplit t $ feq_l t (λ ep. fsplit t $ handle_tells E.al t a vss.1.0
      (λ hv ea fa. move t (1 ∷ []) $ drop t $ move t (1 ∷ []) $ feq_l t (λ e. none hv e refl
      (subst (λ (q : Ptr). vs ≡ vstruct (of_list (ptr_val q ∷ hv ∷ [])) ∷ []) e
      (subst (λ (ws : List Val). vs ≡ vstruct (of_list (ptr_val p ∷ (ws ++ []))) ∷ []) ea
      (subst (λ (ps : List Val). vs ≡ vstruct (of_list (ps ++ (vss.1.0 ++ []))) ∷ []) ep ev))) fa)))))
  handle_out t p a (Some s) vs none some = use1 𝓛 (‵ ((B E).own_val (boxed p a s) vs)) (id⊢ 𝓤 _) $ some s refl

  pub closed_in : K → {hv : Val} (a : Global) → Step K 𝓛 (‵ (Hd.own_val (closed a) (null_word hv ∷ [])) ∷ Γ) G (‵ (handle E a hv) ∷ Γ) G
  closed_in t {hv} a = step (λ s.
      feq_i t Ptr null_ptr null_ptr refl $ nothing t $ move t (2 ∷ 0 ∷ []) $ fjoin t $ feq_i t (List Val) (vnull ∷ [])
      (ptr_val null_ptr ∷ []) refl $ fjoin t $
      feq_i t (List Val) (null_word hv ∷ []) (null_word hv ∷ []) refl $ fjoin t $
      fpack t (Valss (RawPtr ∷ P E ∷ [])) (within (shape (owning E)) (null_ptr, (a, tt)) (null_word hv ∷ [])) (vnull ∷ [], (hv ∷ [], tt)) $ fjoin t $
      use1 𝓛 (‵ (Hd.own_val (closed a) (null_word hv ∷ []))) (id⊢ 𝓤 _) $ s)
