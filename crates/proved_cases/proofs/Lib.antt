mod Right
