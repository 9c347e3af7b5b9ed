use Rattle.rust_text.specs.WholeCode.{named_of}
use Rattle.rust_text.proofs.answers_code_is_read_once.Goals as goal

pub returns : goal.returns
returns c = λ l s excluded text code defs expand rules answers setting of p body a b r q.
    c.texts_are_read_once.ensures (named_of l) setting code.named (record { of = of; tell = c.names_of_answers_tell.ensures l defs expand rules answers setting of }) p body a b r q
