use Rattle.std.proofs.Common.{rules, ◌≡◌, ◌++◌, ◌∙◌, ap, map, refl, length, sym}
use Rattle.std.proofs.lemmas.List.{length-map, map-append}
use Rattle.core_syntax.specs.SyntaxViews.{definition_view, definition_views}
use Rattle.text_reader.specs.SpecViews.{numbered_view}
use Rattle.text_writer.specs.Contents.{behind}
use Rattle.text_writer.proofs.ContentsRead.{read_added}
use Rattle.text_writer.proofs.contents.Contents.add_read.Goals as goal

pub returns : goal.returns
returns c =
    let defs : c.append.new.self.items ≡ c.args.self.now.defs.items ++ c.args.defs.items = search rules in
    let len : c.len-count.result ≡ length c.args.self.now.defs.items = search rules in
    let count : c.len-count.result ≡ length (definition_views c.args.self.now.defs.items) = len ∙ sym (length-map c.args.self.now.defs.items definition_view) in
    read_added _ _ _ _ _ _ _ _ (ap definition_views defs ∙ map-append definition_view c.args.self.now.defs.items c.args.defs.items)
    (c.in_ok-add_forms.ensures ∙ ap (λ n. map numbered_view c.args.self.now.forms.items ++ map (behind n) (map numbered_view c.args.forms.items)) count)
    refl
