use Rattle.std.proofs.Common.{◌≡◌, find, drop}
use Rattle.std.specs.Str.{bytes_eq}
use Rattle.report_warnings.specs.Kinds.{kind_name}
use Rattle.app_words.proofs.values.kind_among.Given as goal

abbrev pub invariant-loop-kind : goal.invariant-loop-kind
invariant-loop-kind l = find (λ kind. bytes_eq (kind_name kind) l.fn.name) (drop l.kind-index l.kinds) ≡ find (λ kind. bytes_eq (kind_name kind) l.fn.name) l.kinds
