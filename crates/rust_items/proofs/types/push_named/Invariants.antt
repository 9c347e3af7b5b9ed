use Rattle.std.proofs.Common.{◌≡◌, ◌++◌, drop}
use Rattle.std.specs.Prelude.{string_bytes}
use Rattle.rust_items.specs.ItemViews.{items_by}
use Rattle.rust_items.proofs.GrownFields.{named_fields_of}
use Rattle.rust_items.proofs.types.push_named.Given as goal

abbrev pub invariant-loop-i : goal.invariant-loop-i
invariant-loop-i l =
    string_bytes l.out ++ named_fields_of (items_by l.fn.program) l.word l.i (drop l.i l.fields) ≡ string_bytes l.fn.out ++ named_fields_of (items_by l.fn.program) l.word 0 l.fields
