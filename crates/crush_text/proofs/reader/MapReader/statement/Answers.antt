-- Reading a statement of the kind that its first word begins.
use Rattle.std.proofs.Common.{◌≡◌, refl, ℕ, List, Option, Ok, Err, false, ap, subst, arith}
use Rattle.std.proofs.lemmas.Result.{err_from_is_err_and}
use Rattle.std.specs.Prelude.{unwrap_or}
use Rattle.crush_builder.specs.Built.{Draft}
use Rattle.crush_builder.specs.Building.{BuilderData}
use Rattle.crush_text.specs.declared.reader.MapReader.{MapReader}
use Rattle.crush_text.specs.declared.statement_kind.StatementKind.{StatementKind}
use Rattle.crush_text.specs.declared.statement_kind.StatementKind.TheVariants as statement_kinds
use Rattle.crush_text.specs.declared.fault.TextFault.{TextFault}
use Rattle.crush_units.specs.Words.{Text}
use Rattle.crush_text.specs.Role.{kind_of_word}
use Rattle.crush_text.specs.Form.{first, second, at}
use Rattle.crush_text.specs.Flow.{between, arrive}
use Rattle.crush_text.specs.Grammar.{bucket_line, statement}
use Rattle.crush_text.specs.Reads.{LeadsOn, Fails}
use Rattle.crush_text.specs.declared.expected.Optional.{Optional}
use Rattle.crush_text.specs.declared.expected.Optional.TheVariants.{Nothing}
use Rattle.crush_text.specs.ReadsLines.{Ending, ending, TakesLinesOf, ReadsLine, ReadsOn, HasRoomFor}
use Rattle.crush_text.specs.ReadsStatements.{behind, IsKnown, CanOpen}
use Rattle.crush_text.specs.Room.{HasRoom}
use Rattle.crush_text.proofs.Reached.{line_leads, fails_line}
use Rattle.crush_text.proofs.Refused.{no_lines}
use Rattle.crush_text.proofs.reader.MapReader.statement.Goals as goal

-- a statement of one line was read, after which all statements may follow
one_line : {A : _} {X : Type 0} (mode : X → Ending) (x : X) (or : Optional) (o s : StatementKind) (old new : MapReader A) → mode x ≡ (first, or) → o ≡ s → ReadsLine (λ d. statement d s) mode old new (Ok x) → ReadsOn (λ d. arrive d old.text.words (statement d o)) behind old new (Ok (record { late = false; or = or }))
one_line mode x or o s old new ends is h = rw is (record {
  reads = λ d at.
      let k = h.reads d at in
      (k.0, k.1, subst (λ (m : Ending). LeadsOn (arrive d old.text.words (statement d s)) old.text (between (ending m k.0)) new.text) ends (line_leads d (statement d s) _ _ _ k.2));
  stands = subst (λ (m : Ending). TakesLinesOf m.0 new.builder) ends h.stands;
  shorter = let lt = h.shorter in omega (arith, lt);
})

-- or a statement of one line was read that has a fault
no_one_line : {A : _} {X : Type 0} (mode : X → Ending) (o s : StatementKind) (old new : MapReader A) (f : TextFault) → o ≡ s → ReadsLine (λ d. statement d s) mode old new (Err f) → ReadsOn (λ d. arrive d old.text.words (statement d o)) behind old new (Err f)
no_one_line mode o s old new f is h = rw is (no_lines _ _ _ _ _ (λ d at. fails_line _ d (statement d s) _ (h.reads d at)))

-- there is room for the statement that a first word begins
room_for : {w : List ℕ} {b : BuilderData} (o s : StatementKind) → o ≡ s → CanOpen o w b → HasRoomFor s b
room_for o s is h = record { idle = h.idle; room = λ d at. subst (HasRoom d) is (h.room d at) }

pub returns-in_ok-tunable-in-Tunable : goal.returns-in_ok-tunable-in-Tunable
returns-in_ok-tunable-in-Tunable g c = one_line (λ _. (first, Nothing)) tt Nothing _ statement_kinds.Tunable _ _ refl c.in-Tunable.is c.in_ok-tunable-in-Tunable.ensures

pub returns-in_err-tunable-in-Tunable : goal.returns-in_err-tunable-in-Tunable
returns-in_err-tunable-in-Tunable g c =
    let p = err_from_is_err_and c.from_residual.result c.from_residual.ensures.1 in
    rw (p.1, p.2) (no_one_line (λ _. (first, Nothing)) _ statement_kinds.Tunable _ _ _ c.in-Tunable.is c.in_err-tunable-in-Tunable.ensures)

pub returns-in_ok-or-in-Device : goal.returns-in_ok-or-in-Device
returns-in_ok-or-in-Device g c = one_line (λ k. (first, k)) _ _ _ statement_kinds.Device _ _ refl c.in-Device.is c.in_ok-or-in-Device.ensures

pub returns-in_err-or-in-Device : goal.returns-in_err-or-in-Device
returns-in_err-or-in-Device g c =
    let p = err_from_is_err_and c.from_residual-in_err-or-in-Device.result c.from_residual-in_err-or-in-Device.ensures.1 in
    rw (p.1, p.2) (no_one_line (λ k. (first, k)) _ statement_kinds.Device _ _ _ c.in-Device.is c.in_err-or-in-Device.ensures)

pub returns-in_ok-kind-in-Type : goal.returns-in_ok-kind-in-Type
returns-in_ok-kind-in-Type g c = one_line (λ _. (first, Nothing)) tt Nothing _ statement_kinds.Type _ _ refl c.in-Type.is c.in_ok-kind-in-Type.ensures

pub returns-in_err-kind-in-Type : goal.returns-in_err-kind-in-Type
returns-in_err-kind-in-Type g c =
    let p = err_from_is_err_and c.from_residual-in_err-kind-in-Type.result c.from_residual-in_err-kind-in-Type.ensures.1 in
    rw (p.1, p.2) (no_one_line (λ _. (first, Nothing)) _ statement_kinds.Type _ _ _ c.in-Type.is c.in_err-kind-in-Type.ensures)

-- the number of a bucket's type, from the type's name
by_name : (d : Draft) (w : List ℕ) (k : ℕ) → IsKnown d (statement_kinds.Bucket k) w → kind_of_word d w ≡ k
by_name d w k known = ap (λ (o : Option ℕ). unwrap_or o 0) known

-- a fault of the bucket's first line
fails_so_named : (f : TextFault) (d : Draft) (n k : ℕ) (t : Text) → n ≡ k → Fails f (arrive d t.words (bucket_line d n)) t → Fails f (arrive d t.words (bucket_line d k)) t
fails_so_named f d n k t e h = subst (λ (m : ℕ). Fails f (arrive d t.words (bucket_line d m)) t) e h

pub bucket-requires : goal.bucket-requires
bucket-requires g c = record {
  idle = c.requires.idle;
  known = λ d h. (c.in-Bucket.field-0, subst (λ o. IsKnown d o c.args.word.now) c.in-Bucket.is (c.requires.known d h), subst (HasRoom d) c.in-Bucket.is (c.requires.room d h));
}

pub returns-in_ok-bucket-in-Bucket : goal.returns-in_ok-bucket-in-Bucket
returns-in_ok-bucket-in-Bucket g c = record {
  reads = λ d h.
      let k = c.in_ok-bucket-in-Bucket.ensures.reads d h in
      let known = by_name d _ _ (subst (λ o. IsKnown d o c.args.word.now) c.in-Bucket.is (c.requires.known d h)) in
      rw c.in-Bucket.is (k.0, k.1, subst (λ (n : ℕ). LeadsOn (arrive d c.args.self.now.text.words (bucket_line d n)) c.args.self.now.text (between (at second k.0)) c.bucket.new.self.text) known k.2);
  stands = c.in_ok-bucket-in-Bucket.ensures.stands;
  shorter = c.in_ok-bucket-in-Bucket.ensures.shorter;
}

pub returns-in_err-bucket-in-Bucket : goal.returns-in_err-bucket-in-Bucket
returns-in_err-bucket-in-Bucket g c =
    let p = err_from_is_err_and c.from_residual-in_err-bucket-in-Bucket.result c.from_residual-in_err-bucket-in-Bucket.ensures.1 in
    rw (p.1, p.2, c.in-Bucket.is) (no_lines _ _ _ _ _ (λ d h.
    let known = by_name d _ _ (subst (λ o. IsKnown d o c.args.word.now) c.in-Bucket.is (c.requires.known d h)) in
    fails_so_named _ d _ _ _ known (c.in_err-bucket-in-Bucket.ensures.reads d h)))

pub returns-in_ok-rule-in-Rule : goal.returns-in_ok-rule-in-Rule
returns-in_ok-rule-in-Rule g c = record {
  reads = λ d h.
      let k = c.in_ok-rule-in-Rule.ensures.reads d h in
      rw c.in-Rule.is (k.0, k.1, k.2);
  stands = c.in_ok-rule-in-Rule.ensures.stands;
  shorter = c.in_ok-rule-in-Rule.ensures.shorter;
}

pub returns-in_err-rule-in-Rule : goal.returns-in_err-rule-in-Rule
returns-in_err-rule-in-Rule g c =
    let p = err_from_is_err_and c.from_residual-in_err-rule-in-Rule.result c.from_residual-in_err-rule-in-Rule.ensures.1 in
    rw (p.1, p.2, c.in-Rule.is) (no_lines _ _ _ _ _ (λ d h.
    (c.in_err-rule-in-Rule.ensures.reads d h)))

pub tunable-requires : goal.tunable-requires
tunable-requires g c = room_for _ statement_kinds.Tunable c.in-Tunable.is c.requires

pub device-requires : goal.device-requires
device-requires g c = room_for _ statement_kinds.Device c.in-Device.is c.requires

pub kind-requires : goal.kind-requires
kind-requires g c = room_for _ statement_kinds.Type c.in-Type.is c.requires

pub rule-requires : goal.rule-requires
rule-requires g c = room_for _ statement_kinds.Rule c.in-Rule.is c.requires
