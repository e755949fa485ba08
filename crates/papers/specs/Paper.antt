-- Papers: what they are, which are well made, and how deep they are. Assumes nothing: these are definitions.
use Rattle.std.specs.Prelude.{ℕ, suc, max, Bool, true, ◌&&◌, nat_lt}

-- a paper (a document): a number, a list of papers, or a record of fields, each with a name and a paper
mutual
  pub data Paper : Type 0 where
    num : ℕ → Paper
    items : Papers → Paper
    fields : Fields → Paper

  pub data Papers : Type 0 where
    no_items : Papers
    item : Paper → Papers → Papers

  pub data Fields : Type 0 where
    no_fields : Fields
    field : ℕ → Paper → Fields → Fields

-- how many papers a list has
unfoldable pub count : Papers → ℕ
count no_items = 0
count (item d ds) = suc (count ds)

-- how many fields a record has
unfoldable pub size : Fields → ℕ
size no_fields = 0
size (field x d fs) = suc (size fs)

-- the first field, if there is one, has a name above x
unfoldable pub after_all : ℕ → Fields → Bool
after_all x no_fields = true
after_all x (field y d fs) = nat_lt x y

-- a paper is well made if the fields of all records in it stand by rising name, each name once
unfoldable mutual
  pub well : Paper → Bool
  well (num n) = true
  well (items ds) = all_well ds
  well (fields fs) = fields_well fs

  pub all_well : Papers → Bool
  all_well no_items = true
  all_well (item d ds) = well d && all_well ds

  pub fields_well : Fields → Bool
  fields_well no_fields = true
  fields_well (field x d fs) = after_all x fs && (well d && fields_well fs)

-- how deep a paper is: a number is 1 deep, a list or record one deeper than the deepest paper in it, and 1 if it has none
unfoldable mutual
  pub deep : Paper → ℕ
  deep (num n) = 1
  deep (items ds) = suc (all_deep ds)
  deep (fields fs) = suc (fields_deep fs)

  pub all_deep : Papers → ℕ
  all_deep no_items = 0
  all_deep (item d ds) = max (deep d) (all_deep ds)

  pub fields_deep : Fields → ℕ
  fields_deep no_fields = 0
  fields_deep (field x d fs) = max (deep d) (fields_deep fs)
