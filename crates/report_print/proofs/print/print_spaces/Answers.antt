use Rattle.std.proofs.Common.{string_bytes, refl}
use Rattle.std.proofs.lemmas.Result.{on_ok_weaker}
use Rattle.report_print.proofs.PrintSteps.{spaces_joined}
use Rattle.report_print.proofs.print.print_spaces.Goals as goal

pub returns : goal.returns
returns c = on_ok_weaker c.print_pieces-3.result
    (spaces_joined c.args.depth (string_bytes c.args.out.now) (string_bytes c.print_pieces.new.out) (string_bytes c.print_pieces-2.new.out) (string_bytes c.print_pieces-3.new.out)
    (c.in_ok-print_pieces.ensures 32 refl) (c.in_ok-print_pieces-2.ensures 4 refl))
    (c.print_pieces-3.ensures 1 refl)
