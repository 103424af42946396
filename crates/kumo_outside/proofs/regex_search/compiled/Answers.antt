use Rattle.std.proofs.Common.{sym}
use Rattle.kumo_outside.proofs.SearchLemmas.{found-Reads, is_pattern-Reads, is_pattern-Refuses}
use Rattle.kumo_outside.proofs.regex_search.compiled.Goals as goal

pub returns-in-Ok-clause-read : goal.returns-in-Ok-clause-read
returns-in-Ok-clause-read c =
    let made = c.in-Ok.ensures in
    sym (is_pattern-Reads _ _ _ (rw (made.source, made.config, c.nest_limit.ensures, c.new.ensures.source, c.new.ensures.config) at made.read))

pub returns-in-Ok-clause-found : goal.returns-in-Ok-clause-found
returns-in-Ok-clause-found c =
    let made = c.in-Ok.ensures in
    λ text bytes. found-Reads _ _ _ text (rw (made.source, made.config, c.nest_limit.ensures, c.new.ensures.source, c.new.ensures.config) at made.read) bytes

pub returns-in-Err-Syntax-clause-read : goal.returns-in-Err-Syntax-clause-read
returns-in-Err-Syntax-clause-read c =
    let made = c.in-Err-Syntax.ensures in
    sym (is_pattern-Refuses _ _ (rw (c.nest_limit.ensures, c.new.ensures.source, c.new.ensures.config) at (made.by_grammar _ c.in-Err-Syntax.field-0-is)) (rw c.in-Err-Syntax.field-0-is at made.kind))

pub returns-in-Err-CompiledTooBig-clause-refused : goal.returns-in-Err-CompiledTooBig-clause-refused
returns-in-Err-CompiledTooBig-clause-refused c =
    let made = c.in-Err-CompiledTooBig.ensures in
    let pattern = rw (c.in-Err-CompiledTooBig.field-0-is, c.nest_limit.ensures, c.new.ensures.source, c.new.ensures.config) at made.kind in
    λ _. is_pattern-Reads c.args.pattern.now pattern.0 pattern.1 pattern.2
