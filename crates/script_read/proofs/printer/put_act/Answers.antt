use Rattle.std.proofs.Common.{◌≡◌, ◌++◌, OnOk, subst}
use Rattle.script_read.proofs.PrintLaws.{poke-text, peek-text, joy-text, fire-text, key-text}
use Rattle.script_read.proofs.printer.put_act.Goals as goal

pub returns-in-Poke-clause-ok : goal.returns-in-Poke-clause-ok
returns-in-Poke-clause-ok c =
    subst (λ text. OnOk c.put_words.result (c.put_words.new.into.items ≡ c.args.into.now.items ++ text))
    (poke-text c.args.act c.in-Poke.reg c.in-Poke.word c.in-Poke.is) c.put_words.ensures.ok

pub returns-in-Peek-clause-ok : goal.returns-in-Peek-clause-ok
returns-in-Peek-clause-ok c =
    subst (λ text. OnOk c.put_words-in-Peek.result (c.put_words-in-Peek.new.into.items ≡ c.args.into.now.items ++ text))
    (peek-text c.args.act c.in-Peek.reg c.in-Peek.is) c.put_words-in-Peek.ensures.ok

pub returns-in-Joy-clause-ok : goal.returns-in-Joy-clause-ok
returns-in-Joy-clause-ok c =
    subst (λ text. OnOk c.put_words-in-Joy.result (c.put_words-in-Joy.new.into.items ≡ c.args.into.now.items ++ text))
    (joy-text c.args.act c.in-Joy.port c.in-Joy.word c.in-Joy.is) c.put_words-in-Joy.ensures.ok

pub returns-in-Fire-clause-ok : goal.returns-in-Fire-clause-ok
returns-in-Fire-clause-ok c =
    subst (λ text. OnOk c.put_words-in-Fire.result (c.put_words-in-Fire.new.into.items ≡ c.args.into.now.items ++ text))
    (fire-text c.args.act c.in-Fire.port c.in-Fire.down c.switch.result c.in-Fire.is c.switch.ensures) c.put_words-in-Fire.ensures.ok

pub returns-in-Key-clause-ok : goal.returns-in-Key-clause-ok
returns-in-Key-clause-ok c =
    subst (λ text. OnOk c.put_words-in-Key.result (c.put_words-in-Key.new.into.items ≡ c.args.into.now.items ++ text))
    (key-text c.args.act c.in-Key.code c.in-Key.is) c.put_words-in-Key.ensures.ok
