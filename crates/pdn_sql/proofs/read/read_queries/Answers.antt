use Rattle.std.proofs.Common.{◌∙◌, List, length, sym, ap}
use Rattle.pdn_sql.specs.declared.token.Placed.{Placed}
use Rattle.pdn_sql.specs.Reading.{place_of, kind_of}
use Rattle.pdn_sql.specs.Part.{whole}
use Rattle.pdn_sql.specs.Grammar.{file}
use Rattle.pdn_sql.proofs.Laws.{says_read, read_is, no_read, fault_is}
use Rattle.pdn_sql.proofs.read.read_queries.Goals as goal

pub returns-in-Ok-clause-found : goal.returns-in-Ok-clause-found
returns-in-Ok-clause-found c =
    let start = c.new-reader.ensures ∙ c.as_slice-all.ensures.value ∙ c.in_ok-tokens.ensures in
    says_read c.args.most c.args.bytes.now c.in-Ok.queries.items _ (ap (whole file) (sym start) ∙ c.in-Ok.ensures)

pub returns-in-Ok-clause-only : goal.returns-in-Ok-clause-only
returns-in-Ok-clause-only c =
    let start = c.new-reader.ensures ∙ c.as_slice-all.ensures.value ∙ c.in_ok-tokens.ensures in
    λ q says. read_is c.args.most c.args.bytes.now q c.in-Ok.queries.items _ (ap (whole file) (sym start) ∙ c.in-Ok.ensures) says

pub returns-clause-only : goal.returns-clause-only
returns-clause-only c =
    let start = c.new-reader.ensures ∙ c.as_slice-all.ensures.value ∙ c.in_ok-tokens.ensures in
    let here = rw c.in-Err-Here.field-0-is at c.in-Err-Here.ensures in
    λ q says. no_read c.args.most c.args.bytes.now q _ (ap (whole file) (sym start) ∙ here) says

pub returns-clause-fault : goal.returns-clause-fault
returns-clause-fault c =
    let start = c.new-reader.ensures ∙ c.as_slice-all.ensures.value ∙ c.in_ok-tokens.ensures in
    let here = rw c.in-Err-Here.field-0-is at c.in-Err-Here.ensures in
    fault_is c.args.most c.args.bytes.now _ c.place_of.result c.kind_of.result (ap (whole file) (sym start) ∙ here) (c.place_of.ensures ∙ ap (place_of (length c.args.bytes.now)) c.left-rest.ensures) (c.kind_of.ensures ∙ ap (λ (rest : List Placed). kind_of c.as_slice-all.result.now rest) c.left-rest.ensures ∙ ap (λ (all : List Placed). kind_of all c.whole_file.new.self) (c.as_slice-all.ensures.value ∙ c.in_ok-tokens.ensures))
