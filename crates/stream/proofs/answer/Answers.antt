-- `stream::answer` meets its contract: the turns of the run, then the last lines.
use Rattle.programs.specs.Programs.{programs}
use Rattle.programs.proofs.Whole.{programs-steady}
use Rattle.stream.proofs.Runs.{gives-text, stops-text}
use Rattle.stream.proofs.answer.Goals as goal

pub returns : goal.returns
returns c =
    let p = c.put_last_lines.ensures in
    let first = c.args.start in
    let finished = c.run-last.ensures.1 in record {
      answered = record {
        input = c.run-last.new.input;
        output = c.run-last.new.output;
        last = c.run-last.result.led;
        left = c.run-last.result.progress;
        finished = finished;
        lines = p.appended;
        gives = gives-text programs programs-steady first finished.ran p.appended;
        stops = stops-text programs programs-steady first finished.ran p.appended;
      };
      upper_bound = p.upper_bound;
    }
