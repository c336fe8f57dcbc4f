use Rattle.claim_check.specs.Command.{ends}
use Rattle.claim_check.proofs.Served.{by_options, by_words}
use Rattle.claim_check.proofs.input.run_text.Goals as goal

pub returns-in-Ok : goal.returns-in-Ok
returns-in-Ok g c =
    let old = ends (g.W.Write.contents c.args.output.now) (g.E.Write.contents c.args.errors.now) in
    let new = ends (g.W.Write.contents c.serve_options.new.output) (g.E.Write.contents c.serve_options.new.errors) in
    record {
      serves =
          by_options c.args.text.now old new c.serve_options.result c.in-Ok.options c.parts.result.0.now c.parts.result.1.now c.parts-2.result.0.now c.parts-2.result.1.now
          c.parts.ensures.before c.parts.ensures.behind c.parts-2.ensures.before c.parts-2.ensures.behind c.in-Ok.ensures.asks c.serve_options.ensures.serves;
    }

pub returns-in-Err : goal.returns-in-Err
returns-in-Err g c =
    let old = ends (g.W.Write.contents c.args.output.now) (g.E.Write.contents c.args.errors.now) in
    let new = ends (g.W.Write.contents c.status_of_words.new.output) (g.E.Write.contents c.status_of_words.new.errors) in
    record {
      serves =
          by_words c.args.text.now old new c.status_of_words.result _ c.parts.result.0.now c.parts.ensures.before c.in-Err.ensures.refuses
          c.status_of_words.ensures.status c.status_of_words.ensures.fault c.status_of_words.ensures.help;
    }
