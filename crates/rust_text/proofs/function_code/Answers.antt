use Rattle.rust_code.specs.CodeViews.{block_view}
use Rattle.rust_text.proofs.LoweredCode.{is_its_code, is_well_made, means_its_source}
use Rattle.rust_text.proofs.function_code.Goals as goal

pub returns : goal.returns
returns c =
    let l = c.args.lowered.now in
    let t = c.args.term.now in
    let code = block_view c.in_ok-code_of.field-0 in
    let its = is_its_code l t code c.deref.result.now c.deref-2.result.now c.in_ok-code_of.ensures c.deref.ensures.value c.deref-2.ensures.value in
    record {
      made = its;
      means = means_its_source l t code c.code_chooses_as_source.ensures c.with_moves_says_same.ensures its;
      well_made = is_well_made l t code c.code_of_each_term_is_well_made.ensures its;
    }
