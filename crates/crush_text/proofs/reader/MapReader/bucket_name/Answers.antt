-- A bucket has begun; its type is the one with the name that was read.
use Rattle.std.proofs.Common.{◌≡◌, ◌∙◌, Err, rules, refl, ap}
use Rattle.std.specs.Prelude.{not}
use Rattle.std.proofs.lemmas.Result.{IfErr-at_err}
use Rattle.crush_builder.specs.Built.{begun_bucket}
use Rattle.crush_builder.specs.Building.{is_begun, is_some_above_zero}
use Rattle.crush_builder.specs.declared.fault.BuildFault.{BuildFault}
use Rattle.crush_builder.specs.declared.fault.BuildFault.TheVariants.{DuplicateName, UnknownType, TooMany, OutOfMemory}
use Rattle.crush_text.specs.Reads.{line_at}
use Rattle.crush_text.proofs.LineEnds.{still}
use Rattle.crush_text.proofs.Reached.{reaches_word}
use Rattle.crush_text.proofs.MemoryAlone.{memory_of_three}
use Rattle.crush_text.proofs.Refused.{line_or_memory}
use Rattle.crush_text.proofs.reader.MapReader.bucket_name.Goals as goal

pub map_err-requires : goal.map_err-requires
map_err-requires g c =
    let d = c.requires.idle.some in
    let k = c.requires.known d.0 d.1 in
    let want : (f : BuildFault) → c.begin.result ≡ Err f → f ≡ OutOfMemory = λ f is. memory_of_three DuplicateName UnknownType TooMany _ _ _ f (c.in_ok-name.ensures.reads.free d.0 d.1) (ap not (ap is_some_above_zero k.1 ∙ k.2.0)) k.2.1 (IfErr-at_err _ is c.begin.ensures.refused d.0 (still c.in_ok-name.ensures.kept d.1)) in
    search (want)

pub returns : goal.returns
unfolding line_at
returns g c =
    line_or_memory c.begin.result _ c.map_err.result c.in_ok-name.name.place c.map_err.ensures.cases (λ e f told. search rules)
    (λ d h. reaches_word d _ _ _ _ _ _ _ _ (c.in_ok-name.ensures.reads.gives d h) (_, c.in_ok-name.ensures.reads.next))
    c.begin.ensures.ok
    (λ ok. record {
      reads = λ d h.
          let k = c.requires.known d h in
          (begun_bucket d k.0 _, ok d k.0 (still c.in_ok-name.ensures.kept h) k.1, rw (k.1, c.in_ok-name.ensures.reads.gives d h) refl);
      stands = let at_once = c.requires.idle.some in
          let k = c.requires.known at_once.0 at_once.1 in
          let begun = ok at_once.0 k.0 (still c.in_ok-name.ensures.kept at_once.1) k.1 in
          record { part = ap is_begun begun.pending; some = (begun_bucket at_once.0 k.0 _, begun) };
      shorter = search rules;
    })
