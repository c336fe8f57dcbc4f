use Rattle.std.proofs.Common.{rules}
use Rattle.program_reader.proofs.PlainLaws.{bare_made}
use Rattle.program_reader.proofs.Runs.{begun, with_sign, action_read}
use Rattle.program_reader.proofs.reader.Reader.bare.Goals as goal

pub returns : goal.returns
returns c = record {
  answers_action =
      let r = action_read
      (with_sign (begun c.args.self.now.scope c.begin.new.self.scope c.in_ok-begin.ensures.names c.in_ok-begin.ensures.ok
      c.keyword.ensures.form) c.in_ok-sign.ensures.ok)
      (bare_made _ c.args.bare c.keyword.ensures.keyword c.action.ensures.action) in
      record {
        names = search rules;
        shorter = search rules;
        counts = search rules;
        ok = r.ok;
        numbered = r.numbered;
        fits = r.fits;
        err = search rules;
      };
}
