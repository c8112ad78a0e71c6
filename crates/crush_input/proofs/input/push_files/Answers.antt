use Rattle.std.proofs.Common.{ℕ, List, ◌++◌, inr, refl, sym, ◌∙◌, subst}
use Rattle.std.proofs.lemmas.Result.{err_from_is_err_and}
use Rattle.std.specs.Prelude.{IfSome}
use Rattle.crush_input.specs.Input.{IsJoined, IsReadAndAppended}
use Rattle.crush_input.specs.Joined.{script_spans_of, with_scripts}
use Rattle.crush_input.specs.Options.{IsScript}
use Rattle.crush_input.proofs.Joins.{next_part, next_script, no_part, no_script, one_script_more}
use Rattle.crush_input.proofs.Reading.{part_noted}
use Rattle.crush_input.proofs.input.push_files.Goals as goal

pub loop-name-init : goal.loop-name-init
loop-name-init g c = λ known spans before. (known, spans, refl, refl, before)

pub loop-name-preserved : goal.loop-name-preserved
loop-name-preserved g c = λ known spans before.
    let so_far = c.loop-name.invariant known spans before in
    let name = c.name-item.result in
    let content = g.F.Opens.content c.args.files.now in
    let behind = subst (λ (n : List ℕ). IsReadAndAppended c.loop-name.job c.push_file.new.job n (content n)) c.as_str.ensures.value c.in_ok-push_file.ensures.read in (
      _,
      _,
      so_far.2 ∙ next_script content so_far.0 c.as_slice-names.result.now c.loop-name.name-index name c.loop-name-test.true c.name-item.is,
      so_far.3 ∙ next_part content so_far.0 c.as_slice-names.result.now c.loop-name.name-index name so_far.1 c.loop-name-test.true c.name-item.is,
      one_script_more so_far.0 (content name.bytes.items) _ _ name.bytes.items so_far.1 so_far.4 behind,
    )

-- after the last file, all scripts have been read
pub returns : goal.returns
returns g c = record {
  job = λ known spans before.
      let all = c.loop-name.invariant known spans before in
      let content = g.F.Opens.content c.args.files.now in
      let names = c.as_slice-names.ensures.value in
      let own = subst (λ spans. IfSome all.0 (λ b. IsJoined c.loop-name.job b spans)) (sym (all.3 ∙ no_part content all.0 c.as_slice-names.result.now c.loop-name.name-index all.1 c.loop-name-test.false)) all.4 in
      let there = subst (λ now. IfSome now (λ b. IsJoined c.loop-name.job b (spans ++ script_spans_of content known c.as_slice-names.result.now))) (sym (all.2 ∙ no_script content all.0 c.as_slice-names.result.now c.loop-name.name-index c.loop-name-test.false)) own in
      subst (λ ns. IfSome (with_scripts content known ns) (λ b. IsJoined c.loop-name.job b (spans ++ script_spans_of content known ns))) names there;
  fault = tt;
  noted = tt;
}

-- the file that couldn't be read is a file of scripts
pub returns-in_err-push_file-clause-noted : goal.returns-in_err-push_file-clause-noted
returns-in_err-push_file-clause-noted g c =
    let p = err_from_is_err_and c.from_residual.result c.from_residual.ensures.1 in
    let script : IsScript c.as_slice-names.result.now c.as_str.result.now = record { place = c.loop-name.name-index; there = c.loop-name-test.true; script = c.name-item.result; is = c.name-item.is; bytes = sym c.as_str.ensures.value } in
    let named = subst (λ ns. IsScript ns c.as_str.result.now) c.as_slice-names.ensures.value script in
    rw (p.1, p.2) (part_noted c.args.options.now _ _ _ (inr named) c.in_err-push_file.ensures.noted)
