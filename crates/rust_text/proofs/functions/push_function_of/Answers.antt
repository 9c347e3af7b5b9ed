use Rattle.std.specs.Prelude.{string_bytes}
use Rattle.std.proofs.lemmas.Result.{on_ok_weaker}
use Rattle.rust_code.specs.CodeViews.{block_view}
use Rattle.rust_text.proofs.WrittenFunctions.{function_of_entry_written}
use Rattle.rust_text.proofs.functions.push_function_of.Goals as goal

pub returns : goal.returns
returns c =
    on_ok_weaker c.push_body.result
    (function_of_entry_written (record { program = c.args.program; gives = c.gives_of-gives.result }) c.args.lowered.now c.args.of.now c.args.term.now (block_view c.in_ok-code.code) (string_bytes c.args.out.now)
    (string_bytes c.push_head.new.out) (string_bytes c.push_body.new.out) c.requires.tyenv c.requires.terms c.gives_of-gives.ensures c.in_ok-code.ensures.made c.in_ok-push_head.ensures)
    c.push_body.ensures
