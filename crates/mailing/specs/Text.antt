-- The text of the kernel: that of mailing.c0.
use Rattle.std.specs.Prelude.{ℕ, List, [], ◌∷◌, codes}
use Rattle.kernel_theorems.specs.Lines.{by_lines}

abbrev pub text : List ℕ
text = by_lines (
    codes "int box;"
    ∷ codes "int waits;"
    ∷ codes "int over;"
    ∷ codes ""
    ∷ codes "int dispatch(int cause, int data, int user) {"
    ∷ codes "  int next; int other; int value; int answer; bool ok;"
    ∷ codes "  next = user;"
    ∷ codes "  other = 3 - user;"
    ∷ codes "  if (cause == 0) { next = 1; }"
    ∷ codes "  if (cause == 1 && other != waits && other != over) { next = other; }"
    ∷ codes "  if (cause > 1) {"
    ∷ codes "    if (cause == 6 && data == 12) {"
    ∷ codes "      value = vm_get(user, 4);"
    ∷ codes "      if (user == 1) {"
    ∷ codes "        if (box == 0) { box = value; } else { waits = 1; }"
    ∷ codes "      } else {"
    ∷ codes "        if (value == 0) {"
    ∷ codes "          answer = box;"
    ∷ codes "          box = 0;"
    ∷ codes "          if (answer == 0) { waits = 2; }"
    ∷ codes "        } else { ok = con_put(value); }"
    ∷ codes "      }"
    ∷ codes "      if (waits == user) { next = other; } else { ok = vm_set(user, 2, answer); }"
    ∷ codes "      if (waits == 1 && box == 0) { box = vm_get(1, 4); ok = vm_set(1, 2, 0); waits = 0; }"
    ∷ codes "      if (waits == 2 && box != 0) { ok = vm_set(2, 2, box); box = 0; waits = 0; }"
    ∷ codes "    } else {"
    ∷ codes "      over = over + user;"
    ∷ codes "      next = other;"
    ∷ codes "    }"
    ∷ codes "    if (next == waits || next == over || over == 3) { next = 0; }"
    ∷ codes "  }"
    ∷ codes "  return next;"
    ∷ codes "}" ∷ [])
