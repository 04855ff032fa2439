-- What a report is printed from: the pages of the users, and their control blocks.
use Rattle.std.specs.Prelude.{ℕ, ◌+◌, ◌*◌, ◌<◌, ◌≤◌}
use Rattle.layer_map.specs.Map.{Map, memory_words}

-- the pages of all users can be read, from so many words of memory and a disk of so many sectors
pub record PagesReadable (m : Map) (words count : ℕ) : Type 0 where
  pub memory : memory_words m ≤ words
  pub small : memory_words m ≤ 30000000
  pub all : m.users * m.params.pages ≤ 65536
  pub room : m.users * m.params.pages ≤ count

-- page q, by its number of all, can be read from as many
pub record CanReadPage (m : Map) (q words count : ℕ) : Type 0 where
  pub page : q < m.users * m.params.pages
  pub pages : PagesReadable m words count

-- so can so many pages from this one on, at most as many as one user has
pub record CanReadPages (m : Map) (first n words count : ℕ) : Type 0 where
  pub few : n ≤ 1024
  pub inside : first + n ≤ m.users * m.params.pages
  pub pages : PagesReadable m words count

-- word k is one of a user of this map
pub record WordStands (m : Map) (user k : ℕ) : Type 0 where
  pub some : 1 ≤ user
  pub most : user ≤ m.users
  pub word : k < 1024 * m.params.pages

-- and it can be read
pub record CanReadWord (m : Map) (user k words count : ℕ) : Type 0 where
  pub word : WordStands m user k
  pub pages : PagesReadable m words count

-- the control block of this user lies in so many words of memory
pub record BlockReadable (user words : ℕ) : Type 0 where
  pub some : 1 ≤ user
  pub most : user ≤ 64
  pub layer : 16384 ≤ words

-- so do those of all users
pub record BlocksStand (m : Map) (words : ℕ) : Type 0 where
  pub few : m.users ≤ 64
  pub layer : 16384 ≤ words

-- and this user is one of them
pub record UserStands (m : Map) (user words : ℕ) : Type 0 where
  pub some : 1 ≤ user
  pub most : user ≤ m.users
  pub few : m.users ≤ 64
  pub layer : 16384 ≤ words

-- the rows of this user can be read, and those of all users
pub record CanReadUser (m : Map) (u words count : ℕ) : Type 0 where
  pub user : UserStands m u words
  pub pages : PagesReadable m words count

pub record CanReadUsers (m : Map) (words count : ℕ) : Type 0 where
  pub users : BlocksStand m words
  pub pages : PagesReadable m words count
