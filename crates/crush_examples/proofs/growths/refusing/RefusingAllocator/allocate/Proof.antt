-- Proves `allocate`: it counts the request, and then refuses it or returns what the wrapped allocator returns. The file assumes `Logic`.
use Rattle.std.proofs.Common.{◌≡◌, ℕ, ◌+◌, ◌^◌, ◌<◌, Bool, true, false, List, [], ◌∷◌, Ok, Err, refl, ap, w64, Bor}
use seplogic.Ra.Ura.{Ura}
use mir.Syntax.{Ty, Args, Fn, a_type, dnil, dcons}
use mir.Val.{Val, vint, vptr}
use mir.MapTy.{inst_fn}
use base.Logic.{SProp, ent, id⊢}
use base.Fml.{Lft, Share, ftrue, fsep, flft}
use prog.Memory.{Memory, size, align, capped, up}
use prog.Routine.{Routine}
use prog.Wp.{WpFn, Tables}
use types.Logic.{Logic}
use contract.BorrowLft.{◌⊑◌, ⊑_trans}
use contract.Monad.{Fun, fact}
use contract.Running.{tables, tables_of}
use sound.WpLaws.{fm_of, WpFn-mono}
use types.Kit.{‵, raw, ◌⊛◌, some, later, at_ret, ⋆, ◌$◌, ◌∵◌, !, qed, by, move, keep, drop, use0, use1, use2, split, join, pick, fsplit, fjoin, feq_l, suffices, await, done}
use types.Part.{agg}
use types.Run.{stop, fld, addr, lit, no_more, and_then, first, branches, skips, exec, returns, returns_within, enter}
use types.ByLocal.{alloc_all, pass_all, free_all, look_at, get, through, sets, lands_as, env}
use denote.Exit.{yes}
use denote.RattleType.{owns}
use denote.Ref.{shr_vals}
use denote.RawPtr.{block_ptr}
use denote.Opens.{unhide}
use denote.Param.{bounded, param}
use denote.Plain.{uint_vals, uint_Tells}
use denote.Builtin.{usize, bool, RefOf}
use denote.Signature.{Slot, plain, types_at}
use denote.Steps.{heard, nothing, only}
use denote.Triple.Call.{calls_at}
use denote.Triple.Clauses.{Ended, Clauses}
use denote.Triple.Spec.{triple_of}
use denote.Triple.Statement.{Triple}
use denote.Triple.Table.{entered, cited}
use denote.Triple.Walked.{Stays, stay_dropped, walk_of, ends_at, walked, Goes-dropped, walk_Meets}
use Rattle.std.specs.Allocator.{block_if_ok}
use Rattle.std.proofs.alloc.Shapes.{after}
use Rattle.std.proofs.alloc.Calls.{Al, α, seen, token, Answer, answer_val, Answer-typed, Answer-Ok, Answer-err, takes_key, Takes, at_takes, Answered, Takes-goes, Takes-gives, answers}
use Rattle.crush_examples.proofs.Count.{Counts, at_cell, asks}
use Rattle.crush_examples.proofs.growths.refusing.counts_down.Symbol as count
use Rattle.crush_examples.proofs.growths.refusing.counts_down.Met.{met as counts}
use Rattle.crush_examples.specs.contracts.growths.refusing.Refusing as Refusing
use Rattle.crush_examples.specs.contracts.growths.refusing.RefusingAllocator.allocate as clauses
use Rattle.crush_examples.specs.contracts.growths.refusing.RefusingAllocator.allocate.Key as key
use Rattle.crush_examples.proofs.growths.refusing.RefusingAllocator.allocate.Statement.{statement}
use Rattle.crush_examples.proofs.growths.refusing.RefusingAllocator.allocate.Code as code

module _ (Z : Al) where
  abbrev args : Args
  args = bounded (a_type ∷ []) (Z.row, tt) (dcons Z.d (dcons Z.drops dnil))

  abbrev here : Fn
  here = inst_fn args code.function

  abbrev self : Slot 2
  self = RefOf (0 ∷ []) tt (plain (λ _. Refusing.the_row (param 0 Z.row))) (λ _. tt)

  abbrev number : Slot 2
  number = plain (λ _. usize)

  abbrev ended : Ended
  ended = clauses.ended Z.row Z.g Z.d Z.drops

  abbrev stays : Stays ended.signature.params ended.kept
  stays = (stay_dropped self yes, (stay_dropped number yes, (stay_dropped number yes, tt)))

module _ (Z : Al) {M : Type 1} {𝓤 : Ura M} (𝓛 : Logic 𝓤) (at_mem : Memory → SProp 𝓤) (run : Routine → Fun 𝓤) (𝓣 : Tables 𝓤 𝓛.H)
    (takes : Triple 𝓤 (𝓣.C (takes_key Z)) (Takes Z 𝓛 at_mem run)) (counts : Triple 𝓤 (𝓣.C count.name) (Counts 𝓛 at_mem run)) where
  open 𝓛 use {H}

  abbrev held : Clauses 𝓤 (ended Z)
  held = clauses.clauses Z.row Z.g Z.d Z.drops 𝓛 at_mem run

  module _ (κ ρ : Lft) (q s : Share) (inside : κ ⊑ ρ) (r : Bor (Refusing.the_row Z.row).Denot) (n a : ℕ) (τ : Ty) where
    abbrev bound : (walk_of 𝓛 (ended Z) (stays Z) held).Ghost
    bound = (((κ, (ρ, tt)), (q, (s, tt)), (inside, tt), (r, (n, (a, tt))), (shr_vals r, (vint w64 n ∷ [], (vint w64 a ∷ [], tt)))), τ)

    abbrev vs : List Val
    vs = vptr r.ref_ptr.0 r.ref_ptr.1 ∷ vint w64 n ∷ vint w64 a ∷ []

    abbrev Post : Val → SProp 𝓤
    Post = (walk_of 𝓛 (ended Z) (stays Z) held).post bound

    abbrev Output : Type 0
    Output = (capped (size τ) ≡ n) × (capped (align τ) ≡ a)

    -- when `allocate` returns, it gives back the answer, the answer's block and the borrowed cell
    exits : (v : Val) (answer : Answer.Denot) → ent 𝓤 (⋆ 𝓛 (‵ (Answer.own_val answer (v ∷ [])) ∷ ‵ (block_if_ok (token Z r.now.memory) τ answer) ∷ ‵ (flft κ q) ∷ (‵ (flft ρ s) ⊛ ‵ ftrue) ∷ [])) (Post v)
    exits v answer = qed 𝓛 (‵ (Answer.own_val answer (v ∷ [])) ∷ ‵ (block_if_ok (token Z r.now.memory) τ answer) ∷ ‵ (flft κ q) ∷ (‵ (flft ρ s) ⊛ ‵ ftrue) ∷ []) ∵
        suffices ! _ (ends_at 𝓛 (ended Z) (stays Z) held bound v answer (tt, (tt, (tt, tt))) (tt, (tt, (tt, tt)))) $
        nothing ! $ nothing ! $ fjoin ! $ nothing ! $ fjoin ! $ nothing ! $ fjoin ! $ join ! $ move ! (2 ∷ 3 ∷ []) $ join ! $ join ! $ done !

    walk : n < 2 ^ 64 → a < 2 ^ 64 → ent 𝓤 ((walk_of 𝓛 (ended Z) (stays Z) held).pre bound) (WpFn 𝓤 H 𝓣.C 𝓣.Λ (here Z) vs Post)
    walk fits_n fits_a =
        let memory : Z.row.Denot = r.now.memory in
        let p : ℕ × ℕ = (r.ref_ptr.0, r.ref_ptr.1 + up (align (α Z)) 0) in
        let cell : ℕ × ℕ = (r.ref_ptr.0, r.ref_ptr.1 + up 8 (up (align (α Z)) 0 + size (α Z))) in
        let request : (Takes Z 𝓛 at_mem run).Ghost = at_takes Z 𝓛 at_mem run κ q p memory n a τ in
        let none = answer_val false 0 0 in
        qed 𝓛 (((‵ (flft κ q) ⊛ ‵ (flft ρ s) ⊛ ‵ ftrue) ⊛ ‵ (owns (types_at (ended Z).signature.params bound.0.0) bound.0.3 bound.0.4)) ∷ (raw (fact 𝓤 (ρ ⊑ Z.row.lives)) ⊛ raw (fact 𝓤 Output)) ∷ []) ∵
        move ! (1 ∷ []) $ split ! $ heard ! (ρ ⊑ Z.row.lives) (λ lives. heard ! Output (λ output.
        split ! $ split ! $ move ! (2 ∷ []) $ fsplit ! $ fsplit ! $ move ! (1 ∷ []) $ unhide ! $ fsplit ! $ fsplit ! $ use1 𝓛 (‵ (seen Z κ p memory)) (id⊢ 𝓤 _) $ move ! (1 ∷ []) $ fsplit ! $ keep ! (0 ∷ 6 ∷ 2 ∷ 7 ∷ []) $
        -- the resources at this point: [the cell; the token of κ; the wrapped allocator; the token of ρ]
        enter ! 𝓣.C 𝓣.Λ (here Z) vs _ $ alloc_all ! (λ l. pass_all ! refl ((tt, tt), ((tt, record { fits = fits_n }), ((tt, record { fits = fits_a }), tt))) $
        sets ! (addr ! (through ! refl (fld ! refl (stop !)))) refl (tt, tt) $
        use2 𝓛 (raw ((Counts 𝓛 at_mem run).pre (at_cell 𝓛 at_mem run κ q cell))) (asks 𝓛 at_mem run κ q cell) $
        calls_at ! (fm_of 𝓤 H 𝓛.laws 𝓣) (Counts 𝓛 at_mem run) counts (at_cell 𝓛 at_mem run κ q cell) (and_then ! (get ! refl) (no_more !)) (λ u.
        use1 𝓛 (later (some (λ (b : Bool). ((‵ (flft κ q) ⊛ ‵ ftrue) ⊛ ‵ (bool.own_val b (u ∷ []))) ⊛ some (λ (ws : Unit {0} × Unit {0}). ‵ (fsep ftrue ftrue) ⊛ ‵ ftrue)))) (id⊢ 𝓤 _) $
        await ! tt $ pick ! (λ b. split ! $ split ! $ split ! $ move ! (2 ∷ []) $ feq_l ! (λ is. lands_as ! (ap only is) refl (tt, tt) $
        move ! (1 ∷ 2 ∷ []) $ drop ! $ drop ! $ move ! (1 ∷ []) $
        -- the resources at this point: [the wrapped allocator; the token of κ; the token of ρ]
        first ! $ branches ! (get ! refl)
        (λ _. drop ! $ sets ! (agg ! (no_more !)) refl (tt, tt) $
        sets ! (agg ! (and_then ! (lit ! tt) (and_then ! (get ! refl) (no_more !)))) refl (Answer-typed false 0 0) $
        returns_within ! Post refl (look_at ! 0 refl) $ free_all ! refl $
        nothing ! $ use0 𝓛 (‵ (Answer.own_val (Err (record {})) (none ∷ []))) (Answer-err 𝓛) $ by ! (exits none (Err (record {}))))
        (λ _. skips ! $ exec ! 𝓣.C 𝓣.Λ (env (here Z).locals l) (after 3 (here Z).body) (at_ret _ Post) $
        sets ! (addr ! (through ! refl (fld ! refl (stop !)))) refl (tt, tt) $
        use2 𝓛 (raw ((Takes Z 𝓛 at_mem run).pre request)) (Takes-goes Z 𝓛 at_mem run κ q p memory (⊑_trans κ ρ Z.row.lives inside lives) n a τ output.0 output.1 fits_n fits_a) $
        calls_at ! (fm_of 𝓤 H 𝓛.laws 𝓣) (Takes Z 𝓛 at_mem run) takes request (and_then ! (get ! refl) (and_then ! (get ! refl) (and_then ! (get ! refl) (no_more !)))) (λ v.
        use1 𝓛 (later (raw (Answered Z 𝓛 at_mem run memory τ v) ⊛ ‵ (flft κ q))) (Takes-gives Z 𝓛 at_mem run κ q p memory n a τ v) $ await ! tt $ split ! $
        answers Z ! at_mem run memory τ v
        (λ block at is. fjoin ! $ lands_as ! is refl (Answer-typed true block at) $ returns ! (look_at ! 0 refl) $ free_all ! refl $
        use0 𝓛 (‵ (Answer.own_val (Ok (block_ptr block at)) (answer_val true block at ∷ []))) (Answer-Ok 𝓛 block at) $ by ! (exits (answer_val true block at) (Ok (block_ptr block at))))
        (λ is. nothing ! $ lands_as ! is refl (Answer-typed false 0 0) $ returns ! (look_at ! 0 refl) $ free_all ! refl $
        use0 𝓛 (‵ (Answer.own_val (Err (record {})) (none ∷ []))) (Answer-err 𝓛) $ by ! (exits none (Err (record {}))))))))))))

pub allocate_spec : {M : Type 1} → statement M
unfolding tables_of
allocate_spec 𝓤 𝓛 𝓜 𝓡 wired Y L g d drops met _ =
    let Z : Al = record { row = Y; laws = L; g = g; d = d; drops = drops } in
    let 𝓣 : Tables 𝓤 𝓛.H = tables_of 𝓤 𝓛.H 𝓜 (tables 𝓤 𝓛.H 𝓜 𝓡 𝓡.env) in
    let c = clauses.clauses Y g d drops 𝓛 𝓜.mem 𝓡.returns in
    let goes = Goes-dropped 𝓛 2 (number Z) yes (λ κs x f. refl) in
    entered 𝓤 𝓛.H (triple_of 𝓛 (clauses.signature Y) (clauses.spec Y g d drops 𝓛 𝓜.mem 𝓡.returns)) 𝓣.C 𝓣.Λ (key.name (args Z)) (here Z) (code.unfolded 𝓤 𝓛.H 𝓜 𝓡 wired (Y, tt) d drops)
    (walk_Meets 𝓛 (ended Z) (stays Z) (Goes-dropped 𝓛 2 (self Z) yes (λ κs x f. refl), (goes, (goes, tt))) c (WpFn 𝓤 𝓛.H 𝓣.C 𝓣.Λ (here Z)) (WpFn-mono 𝓤 𝓛.H 𝓛.laws 𝓣 (here Z))
    (walked 𝓛 (ended Z) (stays Z) c (WpFn 𝓤 𝓛.H 𝓣.C 𝓣.Λ (here Z)) (λ κs. (shr_vals, (uint_vals w64, (uint_vals w64, tt)))) (λ κs. ((λ r vs s. s.0), (uint_Tells w64, (uint_Tells w64, tt))))
    (λ κs qs bounds a τ are. walk Z 𝓛 𝓜.mem 𝓡.returns 𝓣 (met.allocate drops) (cited 𝓤 𝓛.H _ 𝓜 𝓡 𝓡.env count.name (𝓡.env count.name) refl (counts 𝓤 𝓛 𝓜 𝓡 (code.calls-crush_examples::growths::refusing::counts_down 𝓡.env wired))) κs.0 κs.1.0 qs.0 qs.1.0 bounds.0 a.0 a.1.0 a.1.1.0 τ are.1.0.1 are.1.1.0.1)))
