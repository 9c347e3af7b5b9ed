use Rattle.std.proofs.Common.{◌∙◌, ◌++◌, map, ap, arith}
use Rattle.std.specs.Prelude.{string_bytes}
use Rattle.rust_items.specs.SourceViews.{beginning_view}
use Rattle.rust_items.specs.WrittenItems.{file_line}
use Rattle.rust_items.proofs.Grown.{grown_in, grown_through}
use Rattle.rust_items.proofs.lines.Lines.push_files.Goals as goal

pub loop-name-preserved : goal.loop-name-preserved
loop-name-preserved c =
    grown_in string_bytes c.args.self.now.files.now.names.items c.deref-name-items.result.now c.deref-name-items.ensures.value c.loop-name.name-index (file_line (map beginning_view c.args.self.now.prefixes.now)) (string_bytes c.args.out.now)
    c.name-item.result _ _ c.loop-name-test.true c.name-item.is c.loop-name.invariant
    (c.in_ok-push_file_line.ensures ∙ ap (λ n. string_bytes c.loop-name.out ++ file_line (map beginning_view c.args.self.now.prefixes.now) n) c.deref.ensures)

pub returns : goal.returns
returns c =
    grown_through string_bytes c.args.self.now.files.now.names.items c.deref-name-items.result.now c.deref-name-items.ensures.value c.loop-name.name-index (file_line (map beginning_view c.args.self.now.prefixes.now)) (string_bytes c.args.out.now)
    _ (omega (arith, c.loop-name-test.false)) c.loop-name.invariant
