use Rattle.std.proofs.Common.{◌*◌, ap, ◌∙◌}
use Rattle.std.proofs.lemmas.List.{take_rest}
use Rattle.pdn_base.specs.declared.site.Site.{Site}
use Rattle.pdn_base.specs.declared.site.Site.TheVariants.{A, B}
use Rattle.pdn_dealer.specs.Sections.{triple_of, five_of}
use Rattle.pdn_dealer.proofs.SectionWords.{triples_step}
use Rattle.pdn_dealer.proofs.sections.triples.Goals as goal

pub loop-k-preserved : goal.loop-k-preserved
loop-k-preserved c =
    let rest = take_rest c.args.words.now (5 * c.loop-k.k) in
    record {
      a = triples_step A c.loop-k.k c.args.words.now _ _ _ c.loop-k.invariant.a
          (c.triple.ensures ∙ ap (λ ws. triple_of A (five_of ws)) rest) c.in_ok-push.ensures.items;
      b = triples_step B c.loop-k.k c.args.words.now _ _ _ c.loop-k.invariant.b
          (c.triple-in-loop-k.ensures ∙ ap (λ ws. triple_of B (five_of ws)) rest) c.in_ok-push-2.ensures.items;
    }
