use Rattle.std.proofs.Common.{rules, append_assoc}
use Rattle.core_syntax.proofs.Files.{text_at}
use Rattle.core_syntax.proofs.syntax.Pos.pretty_print_line.Goals as goal

pub returns : goal.returns
returns c =
    let a = text_at c.args.files.now.names.items c.args.self.now.file c.index-name.result.now c.requires.name c.index-name.ensures in
    let b = text_at c.args.files.now.texts.items c.args.self.now.file c.index.result.now c.requires.text c.index.ensures in
    rw (a, b, ← c.deref.ensures, ← c.line_at-line.ensures) (search (rules, append_assoc))
