-- `take` makes the box again from what the block owned, and leaves the handle empty.
use Rattle.std.proofs.Common.{◌≡◌, List, [], ◌∷◌, refl, sym, ap, ◌∙◌, subst}
use Rattle.std.specs.Prelude.{None, Some, Option, IsTrue, is_some}
use base.Fml.{ftrue, flft}
use base.Fraction.{full_share}
use base.Logic.{emp, fst∗, id⊢, never}
use contract.BorrowLft.{⊑_static, ◌⊑◌}
use contract.Monad.{fact, fact_i}
use contract.Running.{tables}
use denote.Exit.{yes}
use denote.Laws.{shows}
use denote.Memory.{cell_at}
use denote.Param.{layout}
use denote.Param.NoDrop.{glues}
use denote.RawPtr.{Ptr, block_ptr, null_ptr, in_a_block}
use denote.Ref.{MutRef, mut_vals, mut_Tells}
use denote.Signature.{plain}
use denote.Steps.{nothing, only, heard, opens, closes, peeks}
use denote.Triple.Call.{calls_at_last}
use denote.Triple.Clauses.{Lasts, lasts}
use denote.Triple.Spec.{triple_of}
use denote.Triple.Table.{framed}
use denote.Triple.Walked.{Stays, stay_dropped, stay_ref, Goes-dropped, Goes-ref, walk_of, ends_at}
use mir.Raw.{raw as bare}
use mir.Syntax.{named}
use mir.Val.{Val, vptr}
use types.ByLocal.{alloc_all, pass_all, free_all, look_at, get, through, sets, lands_last, env}
use types.Kit.{‵, raw, at_ret, ◌⊛◌, some, later, ◌$◌, ◌∵◌, !, qed, done, move, keep, drop, use0, use1, split, split3, join, fsplit, fsplit3, fjoin, feq_i, pick, await, rewrite, suffices, frame, group}
use types.Logic.{sem}
use types.Part.{whole, sub, look_in}
use types.Run.{enter, of_opd, load, stop, fld, no_more, and_then, first, blocks, exec, returns}
use types.Tokens.{lft_new}
use Rattle.core.proofs.alloc.Calls.{token}
use Rattle.core.proofs.cell.Inside.{Good}
use Rattle.core.proofs.mem.Facts.{says_two}
use Rattle.std.proofs.VecSteps.Shapes.{after}
use Rattle.std.proofs.raw_atomic.Walks.{proved}
use Rattle.std_alloc.proofs.BoxSteps.Form as box
use Rattle.std_alloc.proofs.BoxSteps.Steps.{box_out, box_in}
use Rattle.std_alloc.specs.contracts.boxed.Box.from_raw as g
use Rattle.std_alloc.proofs.boxed.Box.from_raw.Met.{met}
use Rattle.std_heap.proofs.Global.TheLaws.{lowers as heap_lowers}
use Rattle.std_heap.proofs.GlobalAllocator.TheImpl.Met.{passed}
use Rattle.std_heap.specs.contracts.Global.{the_row as Heap}
use Rattle.std_heap.specs.contracts.GlobalAllocator.TheImpl.{ghosts, dict}
use Rattle.mosaic_c.proofs.Block.{E, none, some_is}
use Rattle.mosaic_c.specs.Owned.{owned}
use Rattle.mosaic_c.specs.declared.session.Session.{Session}
use Rattle.mosaic_c.specs.contracts.handle.Kept.{the_row as K}
use Rattle.mosaic_c.proofs.handle.Kept.TheLaws.{lowers}
use Rattle.mosaic_c.specs.contracts.handle.Kept.take as f
use Rattle.mosaic_c.specs.contracts.handle.Kept.take.Key.{name as #self}
use Rattle.mosaic_c.proofs.handle.Kept.take.Statement.{statement}
use Rattle.mosaic_c.proofs.handle.Kept.take.Code as code
use Rattle.mosaic_c.proofs.Destruct++none.drop.Code.{code as none_code}

abbrev stayed : Stays f.ended.signature.params f.ended.kept
stayed = (stay_ref (0 ∷ []) tt (plain (λ _. K)), (stay_dropped (plain (λ _. Heap)) yes, tt))

pub take_spec : {M : Type 1} → statement M
unfolding none_code
take_spec {M} 𝓤 𝓛 𝓜 𝓡 wired =
    let c = f.clauses 𝓛 𝓜.mem 𝓡.returns in let W = walk_of 𝓛 f.ended stayed c in let 𝓣 = tables 𝓤 𝓛.H 𝓜 𝓡 𝓡.env in
    let heap_met = passed 𝓡.env (code.calls-std_heap::GlobalAllocator::allocate 𝓡.env wired) (code.calls-std_heap::GlobalAllocator::deallocate 𝓡.env wired)
    (code.calls-std_heap::GlobalAllocator::grow 𝓡.env wired) (code.calls-std_heap::GlobalAllocator::shrink 𝓡.env wired) M 𝓤 𝓛 𝓜 𝓡 in
    let Z = E.al.row in let Y = E.row in
    proved 𝓛 f.ended stayed c 𝓜 𝓡 (Goes-ref 𝓛 1 0 tt (plain (λ _. K)), (Goes-dropped 𝓛 1 (plain (λ _. Heap)) yes (λ κs x w. refl), tt))
    #self code.function (code.unfolded 𝓤 𝓛.H 𝓜 𝓡 wired)
    (λ κs. (mut_vals, (λ x. heap_lowers.lowered x ∷ [], tt))) (λ κs. (mut_Tells (named 0) κs.0 K, (heap_lowers.val_is, tt))) (λ κs qs bounds a _ are.
    let b = a.0.ref_ptr.0 in let o = a.0.ref_ptr.1 in let h = a.0.now in let vs = mut_vals a.0 in let alloc = a.1.0 in let hv = heap_lowers.lowered alloc in
    let y : W.Ghost = ((κs, qs, bounds, a, (vs, (hv ∷ [], tt))), tt) in
    qed 𝓛 (((‵ (flft κs.0 qs.0) ⊛ ‵ ftrue) ⊛ ‵ ((MutRef (named 0) κs.0 K).own_val a.0 vs) ⊛ ‵ (Heap.own_val alloc (hv ∷ [])) ⊛ ‵ ftrue) ∷ raw (fact 𝓤 (IsTrue (is_some h.session))) ∷ []) ∵
    move ! (1 ∷ []) $ heard ! _ (λ is. let there = some_is h.session is in let x = there.0 in
    split ! $ split ! $ move ! (2 ∷ []) $ split ! $ move ! (1 ∷ []) $ split ! $ keep ! (0 ∷ 2 ∷ 3 ∷ []) $
    -- owned: [the allocator; self; the token]
    enter ! _ _ _ _ _ $ alloc_all ! (λ l. pass_all ! refl ((tt, tt), ((tt, ((tt, tt), tt)), tt)) $
    move ! (1 ∷ []) $ fsplit3 ! $ move ! (1 ∷ 2 ∷ 4 ∷ []) $ opens ! tt K b o (λ us.
    move ! (1 ∷ []) $ peeks ! K _ (shows 𝓛 K) h us (λ fits. fsplit ! $ move ! (1 ∷ []) $
    rewrite ! 0 (λ (s : Option Session). ‵ (owned h.at s)) there.1 refl $
    in_a_block ! h.at (λ p. owned p (Some x)) (fst∗ 𝓤 (never 𝓤) (sem 𝓛 (token E.al alloc (bare (box.τ E)) null_ptr))) (λ b' o' e.
    let word = lowers.val_is h us fits ∙ ap (λ (p : Ptr). lowers.lowered (record h { at = p }) ∷ []) e in
    let Cell = λ (ws : List Val). ‵ (cell_at full_share K.mir ws b o) in
    rewrite ! 2 Cell word refl $
    -- owned: [what the block owns; what the fields own; the struct's cell; the open borrow, in three entries; self's first part; the allocator]
    first ! $ blocks ! $
    sets ! (of_opd ! (load ! (through ! refl (fld ! refl (stop !))) (look_in ! 2 (sub ! 0 refl (whole !))))) refl (tt, tt) $
    sets ! (of_opd ! (get ! refl)) refl (tt, tt) $
    lft_new ! tt (λ α. lft_new ! tt (λ β.
    let G = triple_of 𝓛 (g.signature Y Z ghosts dict (none Z)) (g.spec Y Z ghosts dict (none Z) 𝓛 𝓜.mem 𝓡.returns) in
    let z : G.Ghost = (((α ∷ [], (β ∷ [], tt)), (full_share, (full_share, tt)), tt, (alloc, (block_ptr b' o', tt)), (hv ∷ [], (vptr b' o' ∷ [], tt))), record { value = x }) in
    let toks = ‵ (flft (α ∷ []) full_share) ⊛ ‵ (flft (β ∷ []) full_share) ⊛ ‵ ftrue in
    -- owned: [the token of β; of α; what the block owns; the fields; the cell; three; self's first part; the allocator]
    nothing ! $ move ! (1 ∷ 0 ∷ []) $ join ! $ move ! (1 ∷ 0 ∷ []) $ join ! $
    nothing ! $ feq_i ! (List Val) (vptr b' o' ∷ []) (vptr b' o' ∷ []) refl $ fjoin ! $ move ! (9 ∷ 0 ∷ []) $ fjoin ! $ move ! (1 ∷ 0 ∷ []) $ join ! $
    move ! (1 ∷ []) $
    use0 𝓛 (raw (fact 𝓤 ((β ∷ []) ⊑ Z.lives))) (fact_i 𝓤 ((β ∷ []) ⊑ Z.lives) (emp 𝓤) (⊑_static (β ∷ []))) $ join ! $
    use0 𝓛 (raw (fact 𝓤 ((α ∷ []) ⊑ Y.lives))) (fact_i 𝓤 ((α ∷ []) ⊑ Y.lives) (emp 𝓤) (⊑_static (α ∷ []))) $ join ! $
    move ! (1 ∷ 0 ∷ []) $ join ! $ use1 𝓛 (raw (G.pre z)) (id⊢ 𝓤 _) $
    calls_at_last ! (framed 𝓤 𝓛.H 𝓜 𝓣) G (met 𝓤 𝓛 𝓜 𝓡 (code.calls-std_alloc::boxed::Box::from_raw 𝓡.env wired) Y Z E.laws E.al.laws ghosts dict (none Z) heap_met (glues "mosaic_c::Destruct++none::drop" 𝓡.env (code.calls-mosaic_c::Destruct++none::drop 𝓡.env wired) Z E.al.laws M 𝓤 𝓛 𝓜 𝓡)) z
    (and_then ! (get ! refl) (and_then ! (get ! refl) (no_more !))) (λ u.
    use1 𝓛 (later (some (λ (r : (box.B E).Denot). (toks ⊛ ‵ ((box.B E).own_val r (u ∷ []))) ⊛ some (λ (ls : Lasts (g.ended Y Z ghosts dict (none Z)) z.0.0 z.0.3). ‵ (lasts (g.ended Y Z ghosts dict (none Z)) z.0.0 z.0.3 ls)
    ⊛ raw (fact 𝓤 (r.value ≡ record { value = x })) ⊛ raw (fact 𝓤 (r.alloc ≡ alloc)))))) (id⊢ 𝓤 _) $
    await ! tt $ pick ! (λ r. split ! $ move ! (1 ∷ []) $ pick ! (λ ls. split3 ! $ drop ! $ heard ! _ (λ same. drop ! $ split ! $ drop ! $
    box_out E ! r (u ∷ []) (λ b2 o2 h2 e2 us2 fits2. box_in E ! r b2 o2 r.value e2 refl $ rewrite ! 0 (λ (xs : List Val). ‵ ((box.B E).own_val r xs)) (sym us2) refl $
    let good = subst (Good (layout (box.B E))) (sym (ap only us2)) (box.box_typed E h2 b2 o2 fits2) in
    lands_last ! refl good $ exec ! 𝓣.C 𝓣.Λ (env code.Mir.locals l) (after 1 (code.function).body) (at_ret _ (W.post y)) $
    sets ! (of_opd ! (get ! refl)) refl good $
    -- owned: [the box; what the fields own; the cell; three; self's first part]
    rewrite ! 2 Cell (sym word) refl $ nothing ! $ move ! (2 ∷ 0 ∷ []) $ fjoin ! $ move ! (2 ∷ 0 ∷ 3 ∷ 4 ∷ 5 ∷ []) $ closes ! tt K (record h { session = None }) us b o $
    -- owned: [two parts of self; the token; the box; self's first part]
    returns ! (look_at ! 0 refl) $ free_all ! refl $ keep ! (4 ∷ 0 ∷ 1 ∷ 2 ∷ 3 ∷ []) $ group ! 3 $
    suffices ! _ (ends_at 𝓛 f.ended stayed c y u r (record h { session = None }, (tt, tt)) (tt, (tt, tt))) $ says_two ! (ap (λ (v : _). Some v.value) same ∙ sym there.1, refl) $
    nothing ! $ nothing ! $ join ! $ move ! (1 ∷ 0 ∷ []) $ join ! $ nothing ! $ move ! (2 ∷ 0 ∷ []) $ join ! $ frame ! $ frame ! $ done !)))))))))))))
