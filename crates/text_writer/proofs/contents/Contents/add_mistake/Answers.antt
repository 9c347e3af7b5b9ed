use Rattle.std.proofs.Common.{rules, ◌≡◌, ◌++◌, ◌∷◌, [], ◌∙◌, ap, map, refl}
use Rattle.std.proofs.lemmas.List.{map-append}
use Rattle.text_reader.specs.RecoveryViews.{wrong_view}
use Rattle.text_writer.proofs.ContentsRead.{mistake_added}
use Rattle.text_writer.proofs.contents.Contents.add_mistake.Goals as goal

pub returns : goal.returns
returns c =
    let pushed : c.push.new.self.items ≡ c.args.self.now.mistakes.items ++ (c.args.mistake ∷ []) = search rules in
    mistake_added _ _ _ _ _ _ _ refl refl (ap (map wrong_view) pushed ∙ map-append wrong_view c.args.self.now.mistakes.items (c.args.mistake ∷ []))
