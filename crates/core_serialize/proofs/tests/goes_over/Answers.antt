use Rattle.std.proofs.Common.{◌∙◌, ◌<◌, arith}
use Rattle.core_serialize.proofs.Tables.{member_of}
use Rattle.core_serialize.proofs.tests.goes_over.Goals as goal

pub returns-then-index-lt65536 : goal.returns-then-index-lt65536
returns-then-index-lt65536 c =
    let l : c.args.call < 65536 = omega arith in
    c.contains.ensures.value ∙ member_of c.args.rule.now.iterators c.args.call l
