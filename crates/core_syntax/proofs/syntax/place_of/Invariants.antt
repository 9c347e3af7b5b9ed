use Rattle.std.proofs.Common.{◌≡◌, drop, map, string_bytes}
use Rattle.std.specs.List.{position_from}
use Rattle.std.specs.Str.{bytes_eq}
use Rattle.core_syntax.proofs.syntax.place_of.Given as goal

abbrev pub invariant-loop-i : goal.invariant-loop-i
invariant-loop-i l =
    position_from (bytes_eq (string_bytes l.name.0)) l.i (map (λ a. string_bytes a.0) (drop l.i l.args))
    ≡ position_from (bytes_eq (string_bytes l.name.0)) 0 (map (λ a. string_bytes a.0) l.args)
