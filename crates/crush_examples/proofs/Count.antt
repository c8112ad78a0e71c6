-- Lemmas about a call of `counts_down`: what the caller must pass to it. The file assumes `Logic`.
use Rattle.std.proofs.Common.{ℕ, List, [], ◌∷◌, refl}
use seplogic.Ra.Ura.{Ura}
use mir.Val.{Val, vptr}
use base.Logic.{SProp, ent, sep}
use base.Fml.{Lft, Share, flft}
use prog.Memory.{Memory}
use prog.Routine.{Routine}
use types.Logic.{Logic, sem}
use contract.Monad.{Fun}
use types.Kit.{‵, ◌$◌, ◌∵◌, !, qed, move, join, fjoin, feq_i, done}
use denote.RattleType.{RattleType}
use denote.Memory.{hidden_shr}
use denote.Builtin.{usize}
use denote.Steps.{nothing}
use denote.Triple.Statement.{Contract}
use denote.Triple.Spec.{triple_of}
use Rattle.std.specs.contracts.cell.Cell as Cell
use Rattle.crush_examples.specs.contracts.growths.refusing.counts_down as count

-- a cell of a number
abbrev Number : RattleType
Number = Cell.the_row usize

module _ {M : Type 1} {𝓤 : Ura M} (𝓛 : Logic 𝓤) (at_mem : Memory → SProp 𝓤) (run : Routine → Fun 𝓤) where
  abbrev pub Counts : Contract 𝓤
  Counts = triple_of 𝓛 count.signature (count.spec 𝓛 at_mem run)

  -- the ghost values of a call with the cell at the address c, which is borrowed for the lifetime κ
  abbrev pub at_cell : Lft → Share → ℕ × ℕ → Counts.Ghost
  at_cell κ q c = (((κ, tt), (q, tt), tt, (record { ref_ptr = c; now = record { value = tt } }, tt), (vptr c.0 c.1 ∷ [], tt)), tt)

module _ {M : Type 1} {𝓤 : Ura M} (𝓛 : Logic 𝓤) (at_mem : Memory → SProp 𝓤) (run : Routine → Fun 𝓤) (κ : Lft) (q : Share) (c : ℕ × ℕ) where
  open 𝓛 use {A}

  -- the borrowed cell and the lifetime's token are all that the call requires
  pub asks : ent 𝓤 (sep 𝓤 (sem 𝓛 (hidden_shr Number κ (record { value = tt }) c.0 c.1)) (A.lft κ q)) ((Counts 𝓛 at_mem run).pre (at_cell 𝓛 at_mem run κ q c))
  asks = qed 𝓛 (‵ (hidden_shr Number κ (record { value = tt }) c.0 c.1) ∷ ‵ (flft κ q) ∷ []) ∵
      feq_i ! (List Val) (vptr c.0 c.1 ∷ []) (vptr c.0 c.1 ∷ []) refl $ fjoin ! $ nothing ! $ move ! (1 ∷ []) $ fjoin ! $
      nothing ! $ move ! (2 ∷ []) $ join ! $ join ! $ nothing ! $ move ! (1 ∷ []) $ join ! $ done !
