use Rattle.std.proofs.Common.{◌≡◌, ℕ, ap, sym, ◌∙◌, arith}
use Rattle.rand_chacha.specs.ChaCha.{ChaCha}
use Rattle.pdn_dealer.specs.Tapes.{chacha_tape}
use Rattle.pdn_dealer.proofs.TapeWords.{first_words_step}
use Rattle.pdn_dealer.proofs.chacha_deal.chacha_words.Goals as goal

pub loop-preserved : goal.loop-preserved
unfolding chacha_tape
loop-preserved c =
    let inv = c.loop.invariant in
    let e = c.next_u64_via_u32.ensures in
    let state = ap (λ (p : ℕ × ChaCha). p.1) e in
    let word : c.from_u64.result ≡ chacha_tape c.args.key c.args.ticket c.args.unit c.loop.counter
    = c.from_u64.ensures ∙ rw (sym inv.key, sym inv.ticket, sym inv.place) (ap (λ (p : ℕ × ChaCha). p.0) e) in
    record {
      key = rw state inv.key;
      ticket = rw state inv.ticket;
      place = rw (state, inv.place) (omega arith);
      words = first_words_step (chacha_tape c.args.key c.args.ticket c.args.unit) c.loop.counter _ _ _ inv.words word c.in_ok-push.ensures.items;
    }
