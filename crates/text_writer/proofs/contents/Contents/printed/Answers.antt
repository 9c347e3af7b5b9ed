use Rattle.std.proofs.Common.{rules, ◌≡◌, ap, map, subst, sym}
use Rattle.core_syntax.specs.SyntaxViews.{definition_views}
use Rattle.text_reader.specs.SpecViews.{numbered_view}
use Rattle.text_writer.proofs.ContentsRead.{never_told, IsUnmatched}
use Rattle.text_writer.proofs.contents.Contents.printed.Goals as goal

pub unreachable-requires : goal.unreachable-requires
unreachable-requires c =
    let defs : c.deref.result.now ≡ c.args.self.now.defs.items = search rules in
    let forms : c.deref-2.result.now ≡ c.args.self.now.forms.items = search rules in
    never_told c.args.self.now (definition_views c.deref.result.now) (map numbered_view c.deref-2.result.now) c.in-Err-Unmatched.field-0
    c.in-Err-Unmatched.ensures.trouble (subst (λ fault. IsUnmatched fault) (sym c.in-Err-Unmatched.field-0-is) tt) c.requires
    (ap definition_views defs) (ap (map numbered_view) forms)
