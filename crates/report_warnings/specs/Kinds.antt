-- The names of kinds of warnings, by which reports tell what they are.
use Rattle.std.specs.Prelude.{ℕ, List, codes}
use Rattle.report_warnings.specs.declared.kinds.Warning.{Warning}
use Rattle.report_warnings.specs.declared.kinds.Warning.TheVariants as W

abbrev pub kind_name : Warning → List ℕ
kind_name W.NeverRun = codes "never-run"
kind_name W.Priority = codes "priority"
kind_name W.Uncovered = codes "uncovered"
kind_name W.Recursion = codes "recursion"
kind_name W.Constant = codes "constant"
kind_name W.Name = codes "name"
kind_name W.Unused = codes "unused"
kind_name W.Literal = codes "literal"
kind_name W.Always = codes "always"
