-- `window::put_window` meets its contract. The five calls of `set_octet` leave five stores.
use Rattle.window.proofs.put_window.Goals as goal

pub returns-else-i-s : goal.returns-else-i-s
returns-else-i-s c =
    rw (
      c.set_octet-else-i-s-4.ensures,
      c.set_octet-else-i-s-3.ensures,
      c.set_octet-else-i-s-2.ensures,
      c.set_octet-else-i-s.ensures,
      c.set_octet.ensures,
      c.to_be_bytes.ensures,
    )
